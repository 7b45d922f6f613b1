use Rattle.std.proofs.Common.{take}
use Rattle.lab_input.specs.Counts.{IsTally}
use Rattle.lab_input.proofs.counts.counts_of.Given as goal

abbrev pub invariant-loop-step : goal.invariant-loop-step
invariant-loop-step l = IsTally l.fn.networks l.peerings (take l.step-index l.steps) l.tally
