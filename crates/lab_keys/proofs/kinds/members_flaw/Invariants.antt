use Rattle.std.proofs.Common.{◌≡◌, ℕ, map, drop}
use Rattle.std.specs.Prelude.{Option}
use Rattle.toml.specs.Data.{Data}
use Rattle.lab_keys.specs.declared.flaw.Flaw.{Flaw}
use Rattle.toml.specs.View.{view}
use Rattle.lab_keys.specs.Spots.{spot_of, member_of}
use Rattle.lab_keys.specs.Kinds.{each_from, kind_flaw}
use Rattle.lab_keys.proofs.kinds.members_flaw.Given as goal

abbrev pub invariant-loop-i : goal.invariant-loop-i
invariant-loop-i l =
    let flaw : ℕ → Data → Option Flaw = λ i. kind_flaw l.kind (member_of (spot_of l.at l.key) i) in
    each_from flaw l.i (map view (drop l.i l.values)) ≡ each_from flaw 0 (map view l.values)
