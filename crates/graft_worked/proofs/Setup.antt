-- The worked setup is one that a laboratory may begin with.
use Rattle.std.proofs.Common.{◌≡◌, ℕ, zero, suc, ◌<◌, ◌≤◌, ◌^◌, [], ◌∷◌, Some, refl, ap, subst, arith, lit<, lit≤, unwrap_or}
use Rattle.std.specs.Prelude.{All, slice_get}
use Rattle.std.proofs.lemmas.List.Elements.{All-from_recursion, All-nil}
use Rattle.bgp_types.specs.Prefixes.{IsPrefix}
use Rattle.bgp_story.proofs.WorkedStories.{peering_is}
use Rattle.bgp_story.specs.Legal.{IsPeering}
use Rattle.session_value.specs.Sessions.{peering_of}
use Rattle.graft_model.specs.Setups.{Setup, PeeringSetup, IsPeeringSetup, IsSetup, IsStep, starting_at, room_of, routers_in, identifier_of, said_length}
use Rattle.graft_worked.specs.Base.{router_a, router_b, peering_c, base}
use Rattle.graft_worked.specs.Emptied.{starting}

-- a fact of 0 and of 1
pub below_two : (P : ℕ → Type 0) → P 0 → P 1 → (n : ℕ) → n < 2 → P n
below_two P x y zero h = x
below_two P x y (suc zero) h = y
below_two P x y (suc (suc n)) h = absurd (omega arith)

pub below_one : (P : ℕ → Type 0) → P 0 → (n : ℕ) → n < 1 → P n
below_one P x zero h = x
below_one P x (suc n) h = absurd (omega arith)

-- a peering of the worked one's AS, with a number, a router and an identifier of its own
pub peering_is_sound : (setup : Setup) (number router identifier : ℕ) → router < routers_in setup
    → 65000 ≡ setup.home_as → identifier ≡ identifier_of setup router
    → IsPeering (peering_of (starting number router identifier).config) → said_length setup number (starting number router identifier) ≤ 2 ^ 20
    → IsPeeringSetup setup number (starting number router identifier)
peering_is_sound setup number router identifier known home_as identifier_is valid said = record {
  start = known;
  number = refl;
  home_as = home_as;
  identifier = identifier_is;
  valid = valid;
  policies = refl;
  next_hop = refl;
  opening = lit≤ tt;
  said = said;
  beats = λ h. absurd (omega arith);
}

-- where the worked peering is the only one
pub one_peering : (setup : Setup) → IsPeeringSetup setup 0 peering_c
    → (p : ℕ) (peering : PeeringSetup) → slice_get (peering_c ∷ []) p ≡ Some peering → IsPeeringSetup setup p peering
one_peering setup sound zero peering e = subst (λ x. IsPeeringSetup setup 0 x) (ap (λ o. unwrap_or o peering_c) e) sound
one_peering setup sound (suc p) peering e = absurd cc

pub base_is_sound : IsSetup base
base_is_sound = record {
  peerings = one_peering base (peering_is_sound base 0 0 0x0AFF0001 (lit< tt) refl refl (peering_is 0 (lit< tt) refl) (lit≤ tt));
  room = below_two (λ r. starting_at base r ≤ room_of base r) (lit≤ tt) (lit≤ tt);
  networks = All-from_recursion (λ router. All IsPrefix router.networks) (router_a ∷ router_b ∷ []) (All-nil IsPrefix, (All-nil IsPrefix, tt));
  steps = All-from_recursion (IsStep base) base.steps (lit< tt, (tt, ((lit< tt, lit< tt), (tt, tt))));
  ended = refl;
}
