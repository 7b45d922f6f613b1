use Rattle.std.proofs.Common.{◌≡◌, None, Some, sym, ap, ◌∙◌, arith}
use Rattle.std.proofs.lemmas.Option.{slice_get_within}
use Rattle.audit_tables.proofs.Known.{read_known, telling_on}
use Rattle.audit_tables.proofs.tables.Tables.batch.Goals as goal

pub index-requires : goal.index-requires
index-requires c =
    let there = slice_get_within c.args.self.now.pending.items c.args.p (Some c.requires.known.0) c.requires.known.1 in
    omega (arith, there, c.args.self.now.pending.ok.0)

pub returns-in-Some-clause-some : goal.returns-in-Some-clause-some
returns-in-Some-clause-some c =
    let t = c.args.self.now in
    let same = read_known t c.args.p c.requires.known.0 c.requires.known.1 c.index.result.now c.index.ensures in
    λ places session knows. c.batch.ensures.some (telling_on t places c.args.p session)
    (knows c.in-Some.pending (c.requires.known.1 ∙ ap Some (sym same ∙ c.in-Some.is)))

pub returns-in-Some-clause-none : goal.returns-in-Some-clause-none
returns-in-Some-clause-none c =
    let t = c.args.self.now in
    let same = read_known t c.args.p c.requires.known.0 c.requires.known.1 c.index.result.now c.index.ensures in
    λ places session knows. c.batch.ensures.none (telling_on t places c.args.p session)
    (knows c.in-Some.pending (c.requires.known.1 ∙ ap Some (sym same ∙ c.in-Some.is)))

pub returns-in-None-clause-none : goal.returns-in-None-clause-none
returns-in-None-clause-none c =
    let known = read_known c.args.self.now c.args.p c.requires.known.0 c.requires.known.1 c.index.result.now c.index.ensures in
    let same : None ≡ Some c.requires.known.0 = sym c.in-None.is ∙ known in
    absurd cc
