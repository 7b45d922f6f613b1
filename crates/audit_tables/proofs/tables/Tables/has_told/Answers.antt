use Rattle.std.proofs.Common.{◌≤◌, arith, length}
use Rattle.std.proofs.lemmas.Bool.{le-leb}
use Rattle.rib_stages.specs.Values.{table_at}
use Rattle.audit_tables.proofs.Emptied.{emptied_is, emptied_past}
use Rattle.audit_tables.proofs.tables.Tables.has_told.Goals as goal

pub returns-then-q-len : goal.returns-then-q-len
returns-then-q-len c =
    let past : length c.args.self.now.due_in ≤ c.args.q = omega (arith, c.if-q-len.true, c.len.ensures) in
    (λ t. emptied_past c.args.self.now.due_in c.args.q past, λ empty. le-leb c.len.result c.args.q (omega (arith, c.if-q-len.true)))

pub returns-else-q-len : goal.returns-else-q-len
returns-else-q-len c = emptied_is (table_at c.args.self.now.due_in c.args.q) c.first.result c.first.ensures c.is_none.result c.is_none.ensures
