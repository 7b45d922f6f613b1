use Rattle.std.proofs.Common.{arith}
use Rattle.toml.specs.View.{table_view}
use Rattle.lab_keys.specs.Keys.{key_flaw, keys_flaw}
use Rattle.lab_keys.proofs.Walks.{first_stops}
use Rattle.lab_keys.proofs.keys.keys_flaw.Goals as goal

pub returns-in-Some : goal.returns-in-Some
returns-in-Some c =
    let t = table_view c.args.table.now in
    first_stops (key_flaw c.args.at t) c.args.keys.now c.loop-key.key-index c.key-item.result c.in-Some.flaw
    (keys_flaw c.args.at c.args.keys.now t) (omega arith) c.key-item.is c.loop-key.invariant c.in-Some.ensures
