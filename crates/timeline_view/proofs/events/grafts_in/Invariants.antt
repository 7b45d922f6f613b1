use Rattle.std.proofs.Common.{◌≡◌, take, sum_by}
use Rattle.lab_input.specs.Counts.{step_grafts}
use Rattle.timeline_view.proofs.events.grafts_in.Given as goal

-- the count so far is that of the steps so far
abbrev pub invariant-loop-step : goal.invariant-loop-step
invariant-loop-step l = l.count ≡ sum_by (step_grafts l.peerings) (take l.step-index l.steps)
