-- The laboratory of the rows is one that can begin.
use Rattle.std.proofs.Common.{◌≡◌, ℕ, zero, suc, ◌<◌, ◌≤◌, List, [], ◌∷◌, false, Option, Some, None, refl, ap, subst, arith, lit<, lit≤, unwrap_or}
use Rattle.std.specs.Prelude.{◌+◌, ◌*◌, ◌^◌, All, slice_get}
use Rattle.std.proofs.lemmas.List.Elements.{All-from_recursion, All-nil}
use Rattle.bgp_types.specs.Prefixes.{IsPrefix}
use Rattle.bgp_types.specs.Values.{is_no_host, is_short_hold}
use Rattle.graft_model.specs.Setups.{PeeringSetup, IsPeeringSetup, IsSetup, IsStep, identifier_of, missing_policy, starting_at, room_of}
use Rattle.router_rows.specs.Laboratory.{laboratory, session_of, peering, in_name, out_name}

-- A peering of the laboratory, whose AS is one, whose hold time is long enough, whose addresses are those of hosts, and whose policies its router has.
peering_is : (p start identifier hold : ℕ) (import export : Option (List ℕ)) → start < 3 → identifier ≡ identifier_of laboratory start
    → 1 ≤ 65001 + p → 65001 + p < 2 ^ 32
    → hold < 2 ^ 16 → is_short_hold hold ≡ false → is_no_host identifier ≡ false → is_no_host (0xC0000201 + 4 * p + 1) ≡ false
    → missing_policy laboratory start (session_of p identifier hold import export) ≡ None
    → IsPeeringSetup laboratory p (peering start (session_of p identifier hold import export))
peering_is p start identifier hold import export there at remote_some remote_fits fits long host next_hop policies = record {
  start = there;
  number = refl;
  home_as = refl;
  identifier = at;
  valid = record {
    home = record {
      home_as = 65000;
      offered = false;
      unicast = false;
      is = refl;
      as_number = record { some = lit≤ tt; fits = lit< tt };
      hold_fits = fits;
      hold_time = long;
      host = host;
    };
    remote_as = record { some = remote_some; fits = remote_fits };
  };
  policies = policies;
  next_hop = next_hop;
  opening = lit≤ tt;
  said = lit≤ tt;
  beats = λ h. absurd (omega arith);
}

-- the peerings, by number
abbrev first : PeeringSetup
first = peering 0 (session_of 0 0x0AFF0001 0 None None)

abbrev second : PeeringSetup
second = peering 0 (session_of 1 0x0AFF0001 0 None None)

abbrev third : PeeringSetup
third = peering 2 (session_of 2 0x0AFF0003 0 None None)

abbrev fourth : PeeringSetup
fourth = peering 1 (session_of 3 0x0AFF0002 0 (Some in_name) (Some out_name))

abbrev fifth : PeeringSetup
fifth = peering 1 (session_of 4 0x0AFF0002 90 (Some in_name) None)

first_is : IsPeeringSetup laboratory 0 first
first_is = peering_is 0 0 0x0AFF0001 0 None None (lit< tt) refl (lit≤ tt) (lit< tt) (lit< tt) refl refl refl refl

second_is : IsPeeringSetup laboratory 1 second
second_is = peering_is 1 0 0x0AFF0001 0 None None (lit< tt) refl (lit≤ tt) (lit< tt) (lit< tt) refl refl refl refl

third_is : IsPeeringSetup laboratory 2 third
third_is = peering_is 2 2 0x0AFF0003 0 None None (lit< tt) refl (lit≤ tt) (lit< tt) (lit< tt) refl refl refl refl

fourth_is : IsPeeringSetup laboratory 3 fourth
fourth_is = peering_is 3 1 0x0AFF0002 0 (Some in_name) (Some out_name) (lit< tt) refl (lit≤ tt) (lit< tt) (lit< tt) refl refl refl refl

fifth_is : IsPeeringSetup laboratory 4 fifth
fifth_is = peering_is 4 1 0x0AFF0002 90 (Some in_name) None (lit< tt) refl (lit≤ tt) (lit< tt) (lit< tt) refl refl refl refl

peerings_are : (p : ℕ) (x : PeeringSetup) → slice_get laboratory.peerings p ≡ Some x → IsPeeringSetup laboratory p x
peerings_are zero x e = subst (λ y. IsPeeringSetup laboratory 0 y) (ap (λ o. unwrap_or o first) e) first_is
peerings_are (suc zero) x e = subst (λ y. IsPeeringSetup laboratory 1 y) (ap (λ o. unwrap_or o second) e) second_is
peerings_are (suc (suc zero)) x e = subst (λ y. IsPeeringSetup laboratory 2 y) (ap (λ o. unwrap_or o third) e) third_is
peerings_are (suc (suc (suc zero))) x e = subst (λ y. IsPeeringSetup laboratory 3 y) (ap (λ o. unwrap_or o fourth) e) fourth_is
peerings_are (suc (suc (suc (suc zero)))) x e = subst (λ y. IsPeeringSetup laboratory 4 y) (ap (λ o. unwrap_or o fifth) e) fifth_is
peerings_are (suc (suc (suc (suc (suc p))))) x e = absurd cc

room_is : (r : ℕ) → r < 3 → starting_at laboratory r ≤ room_of laboratory r
room_is zero h = lit≤ tt
room_is (suc zero) h = lit≤ tt
room_is (suc (suc zero)) h = lit≤ tt
room_is (suc (suc (suc r))) h = absurd (omega arith)

network_is : IsPrefix (record { address = 0xC6336400; len = 24 })
network_is = grind arith

pub laboratory_is_sound : IsSetup laboratory
laboratory_is_sound = record {
  peerings = peerings_are;
  room = room_is;
  networks = All-from_recursion (λ router. All IsPrefix router.networks) laboratory.routers
      (All-nil IsPrefix, (All-nil IsPrefix, (All-from_recursion IsPrefix (record { address = 0xC6336400; len = 24 } ∷ []) (network_is, tt), tt)));
  steps = All-from_recursion (IsStep laboratory) laboratory.steps (tt, tt);
  ended = refl;
}
