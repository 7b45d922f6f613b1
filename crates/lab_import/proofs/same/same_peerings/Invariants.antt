use Rattle.std.proofs.Common.{◌≡◌, take}
use Rattle.std.specs.Prelude.{map}
use Rattle.lab_import.specs.Inputs.{peering_of}
use Rattle.lab_import.proofs.same.same_peerings.Given as goal

-- the peerings so far are these
abbrev pub invariant-loop-k : goal.invariant-loop-k
invariant-loop-k l = take l.k l.peerings ≡ map peering_of (take l.k l.imported)
