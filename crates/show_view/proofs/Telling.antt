-- A best route is still to be told exactly where there is something to tell of it.
use Rattle.std.proofs.Common.{◌≡◌, ℕ, Bool, true, false, cond, ◌||◌, Option, Some, None, refl}
use Rattle.std.specs.Prelude.{◌↔◌, IsSome}
use Rattle.std.proofs.lemmas.Bool.{false≢true}
use Rattle.bgp_types.specs.Prefixes.{PrefixValue}
use Rattle.bgp_types.specs.declared.attrs.Attrs.{Attrs}
use Rattle.bgp_types.specs.declared.attrs.Route.{Route}
use Rattle.route_policy.specs.Rules.{holds_as}
use Rattle.route_policy.specs.Telling.{OutSide, comes_from, exported, is_too_long, told_attrs, told_where_it_fits}
use Rattle.route_policy.specs.declared.best.Best.{Best}
use Rattle.show_view.specs.Laws.{StillToBeTold}
use Rattle.show_view.specs.Untold.{if_exported}
use Rattle.show_view.specs.declared.untold.Untold.TheVariants.{CameFromIt, ThroughItsAs, NotYet, TooLong}

by_size : (attrs : Attrs) (long : Bool) → (cond long TooLong NotYet ≡ NotYet) ↔ IsSome (cond long None (Some attrs))
by_size attrs true = (λ e. absurd cc, λ some. absurd (false≢true some))
by_size attrs false = (λ _. refl, λ _. refl)

module _ (home_as : ℕ) (out : OutSide) (prefix : PrefixValue) (best : Best) where
  by_policy : (left : Option Route)
      → (if_exported home_as out prefix best.route left ≡ NotYet) ↔ IsSome (told_where_it_fits home_as out prefix left)
  by_policy None = (λ e. absurd cc, λ some. absurd (false≢true some))
  by_policy (Some route) = by_size (told_attrs home_as out route) (is_too_long prefix (told_attrs home_as out route))

  by_source : (came through : Bool) (left : Option Route)
      → (cond came CameFromIt (cond through ThroughItsAs (if_exported home_as out prefix best.route left)) ≡ NotYet)
      ↔ IsSome (cond (came || through) None (told_where_it_fits home_as out prefix left))
  by_source true through left = (λ e. absurd cc, λ some. absurd (false≢true some))
  by_source false true left = (λ e. absurd cc, λ some. absurd (false≢true some))
  by_source false false left = by_policy left

pub still_to_be_told_is : StillToBeTold
still_to_be_told_is home_as out prefix best =
    by_source home_as out prefix best (comes_from best.from out.peering) (holds_as best.route.attrs.path out.remote_as)
    (exported home_as out prefix best.route)
