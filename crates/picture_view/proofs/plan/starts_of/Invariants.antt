use Rattle.std.proofs.Common.{◌≡◌, ◌∷◌, take}
use Rattle.std.specs.List.{flat_map}
use Rattle.picture_view.specs.Plans.{starts_in}
use Rattle.picture_view.proofs.plan.starts_of.Given as goal

-- the first group, and those that began so far
abbrev pub invariant-loop-happening : goal.invariant-loop-happening
invariant-loop-happening l =
    l.starts ≡ (record { round = 0; group = 1 }) ∷ flat_map (λ h. starts_in h.round h.event) (take l.happening-index l.all)
