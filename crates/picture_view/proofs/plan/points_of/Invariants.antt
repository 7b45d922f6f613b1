use Rattle.std.proofs.Common.{◌≡◌, take}
use Rattle.std.specs.List.{flat_map}
use Rattle.picture_view.specs.Plans.{points_in}
use Rattle.picture_view.proofs.plan.points_of.Given as goal

-- the changes so far
abbrev pub invariant-loop-happening : goal.invariant-loop-happening
invariant-loop-happening l = l.points ≡ flat_map (λ h. points_in h.round l.log h.event) (take l.happening-index l.all)
