use Rattle.std.proofs.Common.{◌≡◌, ℕ, map, drop}
use Rattle.std.specs.Prelude.{Option}
use Rattle.toml.specs.Data.{Data}
use Rattle.lab_keys.specs.declared.flaw.Flaw.{Flaw}
use Rattle.toml.specs.View.{view}
use Rattle.lab_keys.specs.Spots.{spot_of, member_of}
use Rattle.lab_keys.specs.Kinds.{each_from, table_flaw}
use Rattle.lab_keys.proofs.tables.items_flaw.Given as goal

abbrev pub invariant-loop-i : goal.invariant-loop-i
invariant-loop-i g l =
    let flaw : ℕ → Data → Option Flaw = λ i. table_flaw (member_of (spot_of l.at l.key) i) (g.K.TableKind.flaw_of l.kind i) in
    each_from flaw l.i (map view (drop l.i l.values)) ≡ each_from flaw 0 (map view l.values)
