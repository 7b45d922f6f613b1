-- What holds of the reasons that are given.
use Rattle.std.specs.Prelude.{ℕ, ◌≡◌, ◌↔◌, Some, IsSome}
use Rattle.bgp_types.specs.Prefixes.{PrefixValue}
use Rattle.route_policy.specs.Telling.{OutSide, tell_out}
use Rattle.route_policy.specs.declared.best.Best.{Best}
use Rattle.show_view.specs.declared.untold.Untold.TheVariants.{NotYet}
use Rattle.show_view.specs.Untold.{why_untold}

-- A best route is still to be told exactly where there is something to tell of it; else one of the other reasons is given.
abbrev pub StillToBeTold : Type 0
StillToBeTold = (home_as : ℕ) (out : OutSide) (prefix : PrefixValue) (best : Best)
    → (why_untold home_as out prefix best ≡ NotYet) ↔ IsSome (tell_out home_as out prefix (Some best))
