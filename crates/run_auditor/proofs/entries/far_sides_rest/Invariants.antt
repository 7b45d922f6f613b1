use Rattle.std.proofs.Common.{take}
use Rattle.std.specs.Prelude.{All}
use Rattle.run_auditor.specs.Rests.{FarRests}
use Rattle.run_auditor.proofs.entries.far_sides_rest.Given as goal

abbrev pub invariant-loop-far : goal.invariant-loop-far
invariant-loop-far l = All FarRests (take l.far-index l.far_sides)
