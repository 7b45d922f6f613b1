-- A router of three sessions that is emptied, worked.
use Rattle.std.proofs.Common.{◌≡◌, ℕ, zero, suc, ◌+◌, ◌<◌, ◌≤◌, false, List, [], ◌∷◌, Option, Some}
use Rattle.std.proofs.Common.{None, refl, sym, ap, ◌∙◌, subst, inl, inr, lit<, lit≤, arith}
use Rattle.std.specs.Prelude.{All, slice_get, unwrap_or}
use Rattle.std.proofs.lemmas.List.Elements.{All-from_recursion, All-nil}
use Rattle.std.proofs.lemmas.Option.{same_Some}
use Rattle.bgp_types.specs.Prefixes.{IsPrefix}
use Rattle.bgp_story.proofs.WorkedStories.{peering_is}
use Rattle.graft_model.specs.Setups.{Setup, PeeringSetup, ScriptStep, SayStep, EvacuateStep, ScriptGraft}
use Rattle.graft_model.specs.Setups.{IsPeeringSetup, IsSetup, IsStep, starting_at, room_of, grafts_in, graft_at}
use Rattle.graft_model.specs.Parts.{OperatorPart}
use Rattle.graft_model.specs.OperatorRows.{OperatorTaken, OperatorSent, OrderTo, OrdersGraft, number_by, target_in}
use Rattle.graft_model.specs.Steps.{operator_row}
use Rattle.graft_model.specs.declared.event.OperatorEvent.TheVariants.{Order}
use Rattle.graft_model.proofs.Numbers.{index_of_graft}
use Rattle.bgp_story.specs.Legal.{IsPeering}
use Rattle.session_value.specs.Sessions.{peering_of}
use Rattle.graft_worked.proofs.Setup.{peering_is_sound}
use Rattle.graft_worked.proofs.GraftRows.{orders_first}
use Rattle.graft_worked.specs.Base.{peering_c}
use Rattle.graft_worked.specs.Emptied.{starting, emptying, with_room, without_room, order_of_c2, with_order}

-- ---- the laboratory

below_three : (P : ℕ → Type 0) → P 0 → P 1 → P 2 → (n : ℕ) → n < 3 → P n
below_three P x y z zero h = x
below_three P x y z (suc zero) h = y
below_three P x y z (suc (suc zero)) h = z
below_three P x y z (suc (suc (suc n))) h = absurd (omega arith)

c_is_sound : (p : ℕ) → IsPeeringSetup (emptying 4) p (starting p 0 0x0AFF0001)
c_is_sound p = peering_is_sound (emptying 4) p 0 0x0AFF0001 (lit< tt) refl refl (peering_is 0 (lit< tt) refl) (lit≤ tt)

d_is_valid : IsPeering (peering_of (starting 3 1 0x0AFF0002).config)
d_is_valid = record {
  home = record {
    home_as = 65000;
    offered = false;
    unicast = false;
    is = refl;
    as_number = record { some = lit≤ tt; fits = lit< tt };
    hold_fits = lit< tt;
    hold_time = refl;
    host = refl;
  };
  remote_as = record { some = lit≤ tt; fits = lit< tt };
}

d_is_sound : IsPeeringSetup (emptying 4) 3 (starting 3 1 0x0AFF0002)
d_is_sound = peering_is_sound (emptying 4) 3 1 0x0AFF0002 (lit< tt) refl refl d_is_valid (lit≤ tt)

the_peering : (p : ℕ) (known peering : PeeringSetup) → IsPeeringSetup (emptying 4) p known → Some known ≡ Some peering → IsPeeringSetup (emptying 4) p peering
the_peering p known peering sound e = subst (λ x. IsPeeringSetup (emptying 4) p x) (ap (λ o. unwrap_or o peering_c) e) sound

peerings_are_sound : (p : ℕ) (peering : PeeringSetup) → slice_get (emptying 4).peerings p ≡ Some peering → IsPeeringSetup (emptying 4) p peering
peerings_are_sound zero peering e = the_peering 0 _ peering (c_is_sound 0) e
peerings_are_sound (suc zero) peering e = the_peering 1 _ peering (c_is_sound 1) e
peerings_are_sound (suc (suc zero)) peering e = the_peering 2 _ peering (c_is_sound 2) e
peerings_are_sound (suc (suc (suc zero))) peering e = the_peering 3 _ peering d_is_sound e
peerings_are_sound (suc (suc (suc (suc p)))) peering e = absurd cc

pub emptying_is_sound : IsSetup (emptying 4)
emptying_is_sound = record {
  peerings = peerings_are_sound;
  room = below_three (λ r. starting_at (emptying 4) r ≤ room_of (emptying 4) r) (lit≤ tt) (lit≤ tt) (lit≤ tt);
  networks = All-from_recursion (λ router. All IsPrefix router.networks) (emptying 4).routers (All-nil IsPrefix, (All-nil IsPrefix, (All-nil IsPrefix, tt)));
  steps = All-from_recursion (IsStep (emptying 4)) (emptying 4).steps (lit< tt, (tt, tt));
  ended = refl;
}

-- ---- the orders

-- c2 has no graft before number 2
none_earlier : (other : ScriptGraft) → graft_at (emptying 4) other.graft ≡ Some other → other.peering ≡ 1 → other.graft < 2 → ⊥
none_earlier other known peering before = let t = index_of_graft (emptying 4) other.graft other known in by_index t.0 t.1 t.2 where
  by_index : (i : ℕ) → other.graft ≡ i + 1 → slice_get (grafts_in (emptying 4)) i ≡ Some other → ⊥
  by_index zero number at = let e : ◌≡◌ {A = ℕ} 0 1 = ap (λ (g : ScriptGraft). g.peering) (same_Some _ other at) ∙ peering in absurd cc
  by_index (suc i) number at = omega (arith, number, before)

pub orders_second : OrdersGraft (emptying 4) 0 2 with_room None (OrderTo 0 order_of_c2 ∷ []) with_order
orders_second = orders_first (emptying 4) 2 (record { graft = 2; peering = 1; step = 0 }) 1 with_room refl refl refl refl refl refl none_earlier

says_nothing : (router p : ℕ) (bytes : List ℕ) → Some (EvacuateStep router) ≡ Some (SayStep p bytes) → ⊥
says_nothing router p bytes e = cc

-- a graft that has no target isn't ordered
no_order : (setup : Setup) (part : OperatorPart) (router k : ℕ) (graft : ScriptGraft)
    (taken : Option OperatorTaken) (sent : List OperatorSent) (after : OperatorPart)
    → slice_get setup.steps 0 ≡ Some (EvacuateStep router) → graft_at setup k ≡ Some graft → target_in setup part graft ≡ None
    → ¬ operator_row setup (Order 0 k) part taken sent after
no_order setup part router k graft taken sent after step known none row = elim row [
  | inl says ↦ says_nothing router says.peering says.bytes (sym step ∙ says.is)
  | inr orders ↦
      let number : k ≡ orders.graft.graft = orders.named ∙ ap (λ (s : Option ScriptStep). number_by s orders.graft.graft) step in
      let graft_is : orders.graft ≡ graft = same_Some orders.graft graft (sym orders.known ∙ (ap (graft_at setup) (sym number) ∙ known)) in
      let some : Some orders.target ≡ None = sym orders.is ∙ (ap (target_in setup part) graft_is ∙ none) in
      absurd cc
]

pub unmade : (taken : Option OperatorTaken) (sent : List OperatorSent) (after : OperatorPart)
    → ¬ operator_row (emptying 4) (Order 0 4) with_room taken sent after
unmade taken sent after = no_order (emptying 4) with_room 0 4 (record { graft = 4; peering = 3; step = 0 }) taken sent after refl refl refl

pub stays : (taken : Option OperatorTaken) (sent : List OperatorSent) (after : OperatorPart)
    → ¬ operator_row (emptying 1) (Order 0 2) without_room taken sent after
stays taken sent after = no_order (emptying 1) without_room 0 2 (record { graft = 2; peering = 1; step = 0 }) taken sent after refl refl refl
