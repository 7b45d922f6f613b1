use Rattle.std.proofs.Common.{◌≤◌, length, ap, sym, ◌∙◌, arith}
use Rattle.std.proofs.lemmas.Bool.{le-ltb}
use Rattle.session_value.specs.Sets.{Prefixes, has}
use Rattle.audit_tables.proofs.Emptied.{emptied_past}
use Rattle.audit_tables.proofs.tables.Tables.is_due_to.Goals as goal

pub returns-then-q-len : goal.returns-then-q-len
returns-then-q-len c = c.contains.ensures ∙ ap (λ (s : Prefixes). has s c.args.prefix) c.set.ensures

pub returns-else-q-len : goal.returns-else-q-len
returns-else-q-len c =
    let past : length c.args.self.now.due_in ≤ c.args.q = omega (arith, c.if-q-len.false, c.len.ensures) in
    le-ltb c.args.q c.len.result (omega (arith, c.if-q-len.false)) ∙ sym (emptied_past c.args.self.now.due_in c.args.q past c.args.prefix)
