-- Looks at places.
use Rattle.std.proofs.Common.{◌≡◌, Bool, true, false, not, is_some, Option, Some, None, sym, ◌∙◌}
use Rattle.std.specs.Prelude.{MatchBool}
use Rattle.bgp_session.specs.Running.{RunningSession}
use Rattle.router_core.specs.declared.place.Errand.{Errand}
use Rattle.router_core.specs.Places.{IsLiveWithoutErrand}
use Rattle.router_core.specs.declared.place.Place.{Place}
use Rattle.router_core.specs.declared.place.Place.TheVariants.{Live}

pub free_test : (b : Bool) (place : Option Place) (s : RunningSession) (o : Option Errand) → place ≡ Some (Live s o) → is_some o ≡ not b
    → MatchBool b (IsLiveWithoutErrand place) (IsLiveWithoutErrand place → ⊥)
free_test true place s None is e = record { session = s; is = is }
free_test false place s None is e = absurd (let x : ⊥ = cc in x)
free_test true place s (Some o) is e = absurd (let x : ⊥ = cc in x)
free_test false place s (Some o) is e = λ free. let x : Some (Live s (Some o)) ≡ Some (Live free.session None) = sym is ∙ free.is in (let y : ⊥ = cc in y)
