use Rattle.std.proofs.Common.{◌≡◌, take}
use Rattle.std.specs.Prelude.{map}
use Rattle.lab_import.specs.Inputs.{step_of}
use Rattle.lab_import.proofs.same.same_steps.Given as goal

-- the steps so far are these
abbrev pub invariant-loop-k : goal.invariant-loop-k
invariant-loop-k l = take l.k l.steps ≡ map (step_of l.peerings) (take l.k l.said)
