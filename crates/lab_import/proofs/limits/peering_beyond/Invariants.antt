use Rattle.std.proofs.Common.{◌≡◌, ℕ, ◌<◌, true, Some}
use Rattle.std.specs.List.{slice_get}
use Rattle.imported_sessions.specs.declared.imported.ImportedPeering.{ImportedPeering}
use Rattle.lab_import.specs.Limits.{fits_peering}
use Rattle.lab_import.proofs.limits.peering_beyond.Given as goal

-- the peerings so far have room
abbrev pub invariant-loop-n : goal.invariant-loop-n
invariant-loop-n l = (m : ℕ) (other : ImportedPeering) → m < l.n → slice_get l.peerings m ≡ Some other → fits_peering m other ≡ true
