use Rattle.std.proofs.Common.{◌≡◌, None, Some, sym, ap, ◌∙◌, arith}
use Rattle.std.proofs.lemmas.Option.{slice_get_within}
use Rattle.audit_tables.proofs.Known.{read_known, telling_on}
use Rattle.audit_tables.proofs.tables.Tables.is_told.Goals as goal

pub index-requires : goal.index-requires
index-requires c =
    let there = slice_get_within c.args.self.now.pending.items c.args.p (Some c.requires.0) c.requires.1 in
    omega (arith, there, c.args.self.now.pending.ok.0)

pub returns-in-Some : goal.returns-in-Some
returns-in-Some c =
    let t = c.args.self.now in
    let same = read_known t c.args.p c.requires.0 c.requires.1 c.index.result.now c.index.ensures in
    λ places session knows. c.is_empty.ensures (telling_on t places c.args.p session)
    (knows c.in-Some.pending (c.requires.1 ∙ ap Some (sym same ∙ c.in-Some.is)))

pub returns-in-None : goal.returns-in-None
returns-in-None c =
    let known = read_known c.args.self.now c.args.p c.requires.0 c.requires.1 c.index.result.now c.index.ensures in
    let same : None ≡ Some c.requires.0 = sym c.in-None.is ∙ known in
    absurd cc
