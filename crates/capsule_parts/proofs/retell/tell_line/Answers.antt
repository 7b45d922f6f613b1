use Rattle.std.proofs.Common.{ap, sym, ◌∙◌, ◌∷◌, subst, rules}
use Rattle.capsule_bytes.specs.declared.parts.PartLine.{PartLine}
use Rattle.capsule_bytes.specs.declared.parts.PartLine.TheVariants as parts
use Rattle.capsule_parts.specs.Retold.{IsToldSoFar}
use Rattle.bgp_session.proofs.Exchanged.{if_ok}
use Rattle.capsule_parts.proofs.Told.{pass_stays_if, pass_told, read_stays, read_told}
use Rattle.capsule_parts.proofs.retell.tell_line.Goals as goal

pub returns-in_ok-read-in-Got-clause-stays : goal.returns-in_ok-read-in-Got-clause-stays
returns-in_ok-read-in-Got-clause-stays c =
    read_stays c.in_ok-read-in-Got.field-0 c.args.session.now c.read.new.self c.in_ok-read-in-Got.ensures

pub returns-in_ok-read-in-Got-clause-told : goal.returns-in_ok-read-in-Got-clause-told
returns-in_ok-read-in-Got-clause-told c = λ story rest t.
    let told = read_told c.in_ok-read-in-Got.field-0 c.args.session.now c.read.new.self c.in-Got.field-0 story rest c.in_ok-read-in-Got.ensures
    (subst (λ (line : PartLine). IsToldSoFar story (line ∷ rest) c.args.session.now.session) c.in-Got.is t) in
    let some = told.0 in
    (search rules, told.1)

pub returns-in-Tick-clause-stays : goal.returns-in-Tick-clause-stays
returns-in-Tick-clause-stays c = pass_stays_if c.pass_again.result c.args.session.now c.in-Tick.round c.pass_again.new.self c.pass_again.ensures

pub returns-in-Tick-clause-told : goal.returns-in-Tick-clause-told
returns-in-Tick-clause-told c = λ story rest t.
    let this = subst (λ (line : PartLine). IsToldSoFar story (line ∷ rest) c.args.session.now.session) c.in-Tick.is t in
    if_ok c.pass_again.result (λ passed f. pass_told passed c.args.session.now c.in-Tick.round c.pass_again.new.self story rest f this) c.pass_again.ensures

pub returns-in-Put-clause-told : goal.returns-in-Put-clause-told
returns-in-Put-clause-told c = λ story rest t.
    c.tell_put.ensures.told story rest (subst (λ (line : PartLine). IsToldSoFar story (line ∷ rest) c.args.session.now.session)
    (c.in-Put.is ∙ ap parts.Put (sym c.as_slice.ensures)) t)
