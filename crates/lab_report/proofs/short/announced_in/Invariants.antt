use Rattle.std.proofs.Common.{◌≡◌, take}
use Rattle.std.specs.List.{flat_map}
use Rattle.lab_report.specs.Summary.{announced_in_step}
use Rattle.lab_report.proofs.short.announced_in.Given as goal

-- the prefixes so far are those of the steps so far
abbrev pub invariant-loop-step : goal.invariant-loop-step
invariant-loop-step l = l.prefixes ≡ flat_map announced_in_step (take l.step-index l.steps)
