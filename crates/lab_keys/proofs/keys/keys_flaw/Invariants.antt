use Rattle.std.proofs.Common.{◌≡◌, map, drop}
use Rattle.toml.specs.View.{table_view}
use Rattle.lab_keys.specs.Kinds.{first_of}
use Rattle.lab_keys.specs.Keys.{key_flaw, keys_flaw}
use Rattle.lab_keys.proofs.keys.keys_flaw.Given as goal

abbrev pub invariant-loop-key : goal.invariant-loop-key
invariant-loop-key l = first_of (map (key_flaw l.at (table_view l.table)) (drop l.key-index l.keys)) ≡ keys_flaw l.at l.keys (table_view l.table)
