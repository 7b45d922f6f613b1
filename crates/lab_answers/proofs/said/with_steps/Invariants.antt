use Rattle.std.proofs.Common.{◌≡◌, ◌++◌, take}
use Rattle.lab_setup.specs.Said.{said_over}
use Rattle.lab_answers.proofs.said.with_steps.Given as goal

abbrev pub invariant-loop-step : goal.invariant-loop-step
invariant-loop-step l = l.said ≡ l.fn.opening ++ said_over l.wide l.peering.0 (take l.step-index l.steps)
