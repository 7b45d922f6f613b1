-- The first group begins: no graft was ordered, and sessions are where they start.
use Rattle.std.proofs.Common.{◌≡◌, ◌≢◌, ℕ, zero, suc, ◌+◌, ◌<◌, ◌≤◌, nat_lt, true, false, not, ◌&&◌, List, [], ◌∷◌, ◌++◌}
use Rattle.std.proofs.Common.{length, map, Option, Some, None, unwrap_or, refl, sym, ap, ◌∙◌, subst, inl, inr, arith}
use Rattle.std.specs.Prelude.{slice_get}
use Rattle.std.specs.Option.{option_map}
use Rattle.std.proofs.lemmas.Bool.Decides.{nat_tests}
use Rattle.std.proofs.lemmas.List.{length-map}
use Rattle.std.proofs.lemmas.List.FromFn.{length-range_with_len}
use Rattle.std.proofs.lemmas.Option.{slice_get_within, slice_get-map}
use Rattle.graft_edge.specs.declared.ids.RouterId.{RouterId}
use Rattle.graft_steps.specs.declared.log.GraftEntry.{GraftEntry}
use Rattle.graft_steps.specs.declared.log.GraftStage.TheVariants.{Waiting}
use Rattle.graft_model.specs.Setups.{Setup, ScriptStep, SayStep, MoveStep, EvacuateStep, SettleStep, ScriptGraft, PeeringSetup, routers_in}
use Rattle.graft_model.specs.Setups.{peerings_in, peering_numbers, grafts_numbered, grafts_after, grafts_in, graft_at, start_of}
use Rattle.graft_model.specs.Parts.{Unmade as NoGift, To}
use Rattle.graft_model.specs.Placements.{target_by, placement}
use Rattle.graft_model.specs.Evacuations.{gift_in_group, gift_or}
use Rattle.graft_model.specs.First.{first_operator}
use Rattle.graft_model.proofs.Numbers.{number_of_index}
use Rattle.operator_state.specs.declared.grafts.Seat.{Seat}
use Rattle.operator_state.specs.declared.grafts.Slot.{Slot}
use Rattle.operator_state.specs.declared.grafts.Slot.TheVariants.{Unmade, Stays, Made}
use Rattle.operator_state.specs.Grafts.{is_waiting, is_open, outcome_at, seat_at}
use Rattle.operator_state.specs.Slots.{slot_source, outcome_of, given_of, scripted_step, source_in}
use Rattle.operator_state.specs.Slots.{outcome_in, given_in, waiting_entry, unmade_slots, first_slots}
use Rattle.actor_configs.specs.Scripts.{step_for}
use Rattle.operator_state.specs.Tasks.{has_task}
use Rattle.operator_state.specs.States.{State, is_say, issued_in, part_of_state}
use Rattle.operator_state.specs.Keeps.{StepsAreSound, emptied_by, IsMade, slot_waits, is_first, IsSeat, SeatsStand, with_slots}
use Rattle.operator_state.proofs.Lists.{compare, there_is, one_member}
use Rattle.operator_state.proofs.SlotLaws.{own_step, same_entry}
use Rattle.operator_state.proofs.Placed.{placed_first}
use Rattle.operator_state.proofs.Ready.{group_tasks, IsReadySlot, IsReady}
use Rattle.operator_state.proofs.GiftTasks.{has_say_task}
use Rattle.operator_state.proofs.Begins.{begun, begun_given, begun_source, begun_outcome}

-- ---- the first slots

-- the slot of a graft of a step before its group begins
abbrev IsFirstOf : Option ScriptStep → ScriptGraft → Slot → Type 0
IsFirstOf (Some (MoveStep p target)) g slot =
    (slot ≡ Made (waiting_entry g.graft (record { peering = record { 0 = p }; target = record { 0 = target } }))) × (g.peering ≡ p)
IsFirstOf (Some (EvacuateStep router)) g slot = slot ≡ Unmade
IsFirstOf _ g slot = ⊥

module _ (all : List ScriptStep) where
  -- slots and grafts stand side by side
  abbrev Alike : List ScriptGraft → List Slot → Type 0
  Alike [] [] = Unit {0}
  Alike [] (slot ∷ slots) = ⊥
  Alike (g ∷ grafts) [] = ⊥
  Alike (g ∷ grafts) (slot ∷ slots) = IsFirstOf (slice_get all g.step) g slot × Alike grafts slots

  alike_append : (grafts more : List ScriptGraft) (slots others : List Slot) → Alike grafts slots → Alike more others → Alike (grafts ++ more) (slots ++ others)
  alike_append [] more [] others one other = other
  alike_append [] more (slot ∷ slots) others one other = absurd one
  alike_append (g ∷ grafts) more [] others one other = absurd one
  alike_append (g ∷ grafts) more (slot ∷ slots) others one other = (one.0, alike_append grafts more slots others one.1 other)

  alike_length : (grafts : List ScriptGraft) (slots : List Slot) → Alike grafts slots → length slots ≡ length grafts
  alike_length [] [] one = refl
  alike_length [] (slot ∷ slots) one = absurd one
  alike_length (g ∷ grafts) [] one = absurd one
  alike_length (g ∷ grafts) (slot ∷ slots) one = ap suc (alike_length grafts slots one.1)

  alike_at : (grafts : List ScriptGraft) (slots : List Slot) → Alike grafts slots → (i : ℕ) (g : ScriptGraft) (slot : Slot)
      → slice_get grafts i ≡ Some g → slice_get slots i ≡ Some slot
      → IsFirstOf (slice_get all g.step) g slot
  alike_at [] slots one i g slot e f = absurd cc
  alike_at (x ∷ grafts) [] one i g slot e f = absurd one
  alike_at (x ∷ grafts) (y ∷ slots) one zero g slot e f =
      let same : x ≡ g = cc in
      let same_slot : y ≡ slot = cc in
      subst (λ (z : ScriptGraft). IsFirstOf (slice_get all z.step) z slot) same (subst (IsFirstOf (slice_get all x.step) x) same_slot one.0)
  alike_at (x ∷ grafts) (y ∷ slots) one (suc i) g slot e f = alike_at grafts slots one.1 i g slot e f

  unmade_alike : (k n router : ℕ) (peerings : List ℕ) → slice_get all n ≡ Some (EvacuateStep router)
      → Alike (grafts_numbered k n peerings) (unmade_slots (length peerings))
  unmade_alike k n router [] e = tt
  unmade_alike k n router (p ∷ peerings) e = (
    subst (λ (o : Option ScriptStep). IsFirstOf o (record { graft = k + 1; peering = p; step = n }) Unmade) (sym e) refl,
    unmade_alike (k + 1) n router peerings e,
  )

  first_alike : (setup : Setup) (k n : ℕ) (steps : List ScriptStep) → ((j : ℕ) → slice_get all (n + j) ≡ slice_get steps j)
      → Alike (grafts_after setup k n steps) (first_slots (peerings_in setup) k (map step_for steps))
  first_alike setup k n [] there = tt
  first_alike setup k n (SayStep p bytes ∷ steps) there =
      let e : k + 0 ≡ k = omega arith in
      subst (λ (m : ℕ). Alike (grafts_after setup (k + 0) (n + 1) steps) (first_slots (peerings_in setup) m (map step_for steps))) e
      (first_alike setup (k + 0) (n + 1) steps (λ j. later n j there))
    where
      later : (m j : ℕ) → ((i : ℕ) → slice_get all (m + i) ≡ slice_get (SayStep p bytes ∷ steps) i) → slice_get all (m + 1 + j) ≡ slice_get steps j
      later m j is = let e : m + 1 + j ≡ m + suc j = omega arith in ap (slice_get all) e ∙ is (suc j)
  first_alike setup k n (SettleStep ∷ steps) there =
      let e : k + 0 ≡ k = omega arith in
      subst (λ (m : ℕ). Alike (grafts_after setup (k + 0) (n + 1) steps) (first_slots (peerings_in setup) m (map step_for steps))) e
      (first_alike setup (k + 0) (n + 1) steps (λ j. later n j there))
    where
      later : (m j : ℕ) → ((i : ℕ) → slice_get all (m + i) ≡ slice_get (SettleStep ∷ steps) i) → slice_get all (m + 1 + j) ≡ slice_get steps j
      later m j is = let e : m + 1 + j ≡ m + suc j = omega arith in ap (slice_get all) e ∙ is (suc j)
  first_alike setup k n (MoveStep p target ∷ steps) there = (
    subst (λ (o : Option ScriptStep). IsFirstOf o (record { graft = k + 1; peering = p; step = n })
        (Made (waiting_entry (k + 1) (record { peering = record { 0 = p }; target = record { 0 = target } }))))
        (sym (let e : n ≡ n + 0 = omega arith in ap (slice_get all) e ∙ there 0)) (refl, refl),
    first_alike setup (k + 1) (n + 1) steps (λ j. let e : n + 1 + j ≡ n + suc j = omega arith in ap (slice_get all) e ∙ there (suc j)),
  )
  first_alike setup k n (EvacuateStep router ∷ steps) there =
      let own : Alike (grafts_numbered k n (peering_numbers setup)) (unmade_slots (length (peering_numbers setup))) =
      unmade_alike k n router (peering_numbers setup) (let e : n ≡ n + 0 = omega arith in ap (slice_get all) e ∙ there 0) in
      let rest : Alike (grafts_after setup (k + length (peering_numbers setup)) (n + 1) steps)
      (first_slots (peerings_in setup) (k + length (peering_numbers setup)) (map step_for steps)) =
      first_alike setup (k + length (peering_numbers setup)) (n + 1) steps
      (λ j. let e : n + 1 + j ≡ n + suc j = omega arith in ap (slice_get all) e ∙ there (suc j)) in
      subst (λ (m : ℕ). Alike (grafts_numbered k n (peering_numbers setup) ++ grafts_after setup (k + length (peering_numbers setup)) (n + 1) steps)
      (unmade_slots m ++ first_slots (peerings_in setup) (k + m) (map step_for steps)))
      (length-range_with_len 0 (peerings_in setup))
      (alike_append (grafts_numbered k n (peering_numbers setup)) _ (unmade_slots (length (peering_numbers setup))) _ own rest)

given_none : (o : Option ScriptStep) → given_of o None ≡ NoGift
given_none None = refl
given_none (Some (SayStep p bytes)) = refl
given_none (Some (MoveStep p target)) = refl
given_none (Some (EvacuateStep router)) = refl
given_none (Some SettleStep) = refl

-- what such a slot says
first_given : (o : Option ScriptStep) (g : ScriptGraft) (slot : Slot) → IsFirstOf o g slot → given_of o (Some slot) ≡ NoGift
first_given None g slot is = absurd is
first_given (Some (SayStep p bytes)) g slot is = absurd is
first_given (Some (MoveStep p target)) g slot is = refl
first_given (Some (EvacuateStep router)) g slot is = ap (λ x. given_of (Some (EvacuateStep router)) (Some x)) is
first_given (Some SettleStep) g slot is = absurd is

first_entry : (o : Option ScriptStep) (g : ScriptGraft) (entry : GraftEntry) → IsFirstOf o g (Made entry) → (entry.source ≡ None) × (entry.stage ≡ Waiting)
first_entry None g entry is = absurd is
first_entry (Some (SayStep p bytes)) g entry is = absurd is
first_entry (Some (MoveStep p target)) g entry is =
    let same : entry ≡ waiting_entry g.graft (record { peering = record { 0 = p }; target = record { 0 = target } }) = same_entry entry _ (ap Some is.0) in
    (ap (λ (x : GraftEntry). x.source) same, ap (λ (x : GraftEntry). x.stage) same)
first_entry (Some (EvacuateStep router)) g entry is = absurd (let e : Made entry ≡ Unmade = is in cc)
first_entry (Some SettleStep) g entry is = absurd is

first_ready_slot : (setup : Setup) → StepsAreSound setup → (g : ScriptGraft) (slot : Slot) (o : Option ScriptStep) → slice_get setup.steps g.step ≡ o
    → IsFirstOf o g slot → IsReadySlot setup 0 g slot
first_ready_slot setup sound g slot None e is = absurd is
first_ready_slot setup sound g slot (Some (SayStep p bytes)) e is = absurd is
first_ready_slot setup sound g slot (Some (MoveStep p target)) e is = record {
  fits = record {
    unmade = λ f. absurd (let h : Made entry ≡ Unmade = sym is.0 ∙ f in cc);
    stays = λ k q router f. absurd (let h : Made entry ≡ Stays k q router = sym is.0 ∙ f in cc);
    made = λ one f. subst (IsMade setup g) (same_entry entry one (ap Some (sym is.0 ∙ f))) (record {
      graft = refl;
      peering = sym is.1;
      target = ap (λ x. target_by x (To target)) e;
      there = (sound.moves g.step p target e).1;
      source = (λ none. refl, λ waits. refl);
    });
  };
  past = λ less. absurd (omega arith);
  later = λ more. ap (λ x. is_first x slot) e ∙ ap slot_waits is.0;
}
  where
    entry : GraftEntry
    entry = waiting_entry g.graft (record { peering = record { 0 = p }; target = record { 0 = target } })
first_ready_slot setup sound g slot (Some (EvacuateStep router)) e is = record {
  fits = record {
    unmade = λ f none. (let h : Some router ≡ None = sym (ap emptied_by e) ∙ none in cc);
    stays = λ k q r f. absurd (let h : Unmade ≡ Stays k q r = sym is ∙ f in cc);
    made = λ entry f. absurd (let h : Unmade ≡ Made entry = sym is ∙ f in cc);
  };
  past = λ less. absurd (omega arith);
  later = λ more. ap (λ x. is_first x slot) e ∙ ap (λ x. is_first (Some (EvacuateStep router)) x) is;
}
first_ready_slot setup sound g slot (Some SettleStep) e is = absurd is

-- ---- the first group

module _ (setup : Setup) (sound : StepsAreSound setup)
    (starts : (p : ℕ) (peering : PeeringSetup) → slice_get setup.peerings p ≡ Some peering → peering.start < routers_in setup)
    (len : ℕ) (others : (n : ℕ) → 0 ≤ n → n < 0 + len → slice_get setup.steps n ≢ Some SettleStep)
    (settle : slice_get setup.steps (0 + len) ≡ Some SettleStep) where
  abbrev pub first_slots_of : List Slot
  first_slots_of = first_slots (peerings_in setup) 0 (map step_for setup.steps)

  abbrev pub first_seats_of : List Seat
  first_seats_of = map seat_at (map (λ (peering : PeeringSetup). record { 0 = peering.start }) setup.peerings)

  alike : Alike setup.steps (grafts_in setup) first_slots_of
  alike = first_alike setup.steps setup 0 0 setup.steps (λ j. let e : 0 + j ≡ j = omega arith in ap (slice_get setup.steps) e)

  as_many : length first_slots_of ≡ length (grafts_in setup)
  as_many = alike_length setup.steps (grafts_in setup) first_slots_of alike

  -- the graft of a slot
  of_graft : (i : ℕ) (slot : Slot) → slice_get first_slots_of i ≡ Some slot
      → (g : ScriptGraft) × (slice_get (grafts_in setup) i ≡ Some g) × IsFirstOf (slice_get setup.steps g.step) g slot
  of_graft i slot e =
      let l : i < length first_slots_of = slice_get_within first_slots_of i slot e in
      let all : length first_slots_of ≡ length (grafts_in setup) = as_many in
      let found = there_is (grafts_in setup) i (omega arith) in
      (found.0, found.1, alike_at setup.steps (grafts_in setup) first_slots_of alike i found.0 slot found.1 e)

  waits : (i : ℕ) (entry : GraftEntry) → slice_get first_slots_of i ≡ Some (Made entry) → (entry.source ≡ None) × (entry.stage ≡ Waiting)
  waits i entry e = let own = of_graft i (Made entry) e in first_entry (slice_get setup.steps own.0.step) own.0 entry own.2

  no_source : (k : ℕ) → source_in first_slots_of k ≡ None
  no_source zero = refl
  no_source (suc k) = by_slot (slice_get first_slots_of k) refl
    where
      by_slot : (o : Option Slot) → slice_get first_slots_of k ≡ o → slot_source (slice_get first_slots_of k) ≡ None
      by_slot None e = ap slot_source e
      by_slot (Some Unmade) e = ap slot_source e
      by_slot (Some (Stays n p router)) e = ap slot_source e
      by_slot (Some (Made entry)) e = ap slot_source e ∙ ap (λ o. option_map (λ r. r.0) o) (waits k entry e).0

  no_outcome : (k : ℕ) → outcome_in first_slots_of k ≡ None
  no_outcome zero = refl
  no_outcome (suc k) = by_slot (slice_get first_slots_of k) refl
    where
      by_slot : (o : Option Slot) → slice_get first_slots_of k ≡ o → outcome_of (slice_get first_slots_of k) ≡ None
      by_slot None e = ap outcome_of e
      by_slot (Some Unmade) e = ap outcome_of e
      by_slot (Some (Stays n p router)) e = ap outcome_of e
      by_slot (Some (Made entry)) e = ap outcome_of e ∙ ap outcome_at (waits k entry e).1

  no_gift : (k : ℕ) → given_in setup first_slots_of k ≡ NoGift
  no_gift zero = given_none (scripted_step setup 0)
  no_gift (suc k) = by_slot (slice_get first_slots_of k) refl
    where
      by_slot : (o : Option Slot) → slice_get first_slots_of k ≡ o → given_of (scripted_step setup (suc k)) (slice_get first_slots_of k) ≡ NoGift
      by_slot None e = ap (given_of (scripted_step setup (suc k))) e ∙ given_none (scripted_step setup (suc k))
      by_slot (Some slot) e =
          let own = of_graft k slot e in
          let number : own.0.graft ≡ suc k = omega (arith, number_of_index setup k own.0 own.1) in
          ap (given_of (scripted_step setup (suc k))) e
          ∙ ap (λ o. given_of o (Some slot)) (ap (scripted_step setup) (sym number) ∙ own_step setup first_slots_of k own.0 own.1)
          ∙ first_given (slice_get setup.steps own.0.step) own.0 slot own.2

  seats_stand : SeatsStand setup first_slots_of first_seats_of
  seats_stand = record { all = all; each = each }
    where
      all : length first_seats_of ≡ peerings_in setup
      all = length-map (map (λ (peering : PeeringSetup). let id : RouterId = record { 0 = peering.start } in id) setup.peerings) seat_at
          ∙ length-map setup.peerings (λ peering. let id : RouterId = record { 0 = peering.start } in id)

      each : (p : ℕ) (seat : Seat) → slice_get first_seats_of p ≡ Some seat → IsSeat setup first_slots_of p seat
      each p seat e =
          let found = there_is setup.peerings p (let l : p < length first_seats_of = slice_get_within first_seats_of p seat e in
          let h : length first_seats_of ≡ peerings_in setup = all in omega arith) in
          let at_start : slice_get first_seats_of p ≡ Some (seat_at (record { 0 = found.0.start })) =
          slice_get-map seat_at (map (λ (peering : PeeringSetup). record { 0 = peering.start }) setup.peerings) p
          ∙ ap (option_map seat_at) (slice_get-map (λ (peering : PeeringSetup). record { 0 = peering.start }) setup.peerings p
          ∙ ap (option_map (λ (peering : PeeringSetup). record { 0 = peering.start })) found.1) in
          let same : seat ≡ seat_at (record { 0 = found.0.start }) = one_member (slice_get first_seats_of p) _ _ e at_start in
          let start : start_of setup p ≡ found.0.start = ap (λ o. unwrap_or (option_map (λ (peering : PeeringSetup). peering.start) o) 0) found.1 in
          record {
            place = ap (λ (x : Seat). x.place.0) same ∙ sym start ∙ sym (placed_first setup p (with_slots setup first_slots_of) no_outcome);
            there = subst (λ (x : Seat). x.place.0 < routers_in setup) (sym same) (starts p found.0 found.1);
            still = (λ still i entry f of_p. ap is_open (waits i entry f).1, λ none. ap (λ (x : Seat). x.moving) same);
          }

  pub first_ready : IsReady setup 0 0 len first_slots_of first_seats_of
  first_ready = record {
    sound = sound;
    begins = refl;
    before = λ n l. absurd (omega arith);
    others = others;
    settle = settle;
    all = as_many;
    each = λ i g slot at_index e. first_ready_slot setup sound g slot (slice_get setup.steps g.step) refl
        (alike_at setup.steps (grafts_in setup) first_slots_of alike i g slot at_index e);
    in_turn = λ i j one other l e f same ordered. absurd (let g : true ≡ false = sym (ap is_waiting (waits j other f).1) ∙ ordered in cc);
    seated = seats_stand;
  }

  abbrev first : State
  first = begun setup 0 0 len first_slots_of first_seats_of first_ready

  none_issued : (m : ℕ) → issued_in first m ≡ false
  none_issued m = by_step (slice_get setup.steps m) refl
    where
      silent : (o : Option ScriptStep) → slice_get setup.steps m ≡ o → is_say o ≡ false → issued_in first m ≡ false
      silent o e none = ap (λ b. b && nat_lt m (0 + len + 1) && not (has_task (group_tasks setup first_seats_of 0 len) m 0)) (ap is_say e ∙ none)

      by_step : (o : Option ScriptStep) → slice_get setup.steps m ≡ o → issued_in first m ≡ false
      by_step None e = silent None e refl
      by_step (Some (MoveStep p target)) e = silent (Some (MoveStep p target)) e refl
      by_step (Some (EvacuateStep router)) e = silent (Some (EvacuateStep router)) e refl
      by_step (Some SettleStep) e = silent (Some SettleStep) e refl
      by_step (Some (SayStep p bytes)) e = elim (compare m (0 + len)) [
        | inl l ↦
            let f : nat_lt m (0 + len + 1) ≡ true = grind (arith, nat_tests) in
            ap (λ b. b && nat_lt m (0 + len + 1) && not (has_task (group_tasks setup first_seats_of 0 len) m 0)) (ap is_say e)
            ∙ ap (λ b. true && b && not (has_task (group_tasks setup first_seats_of 0 len) m 0)) f
            ∙ ap (λ b. true && true && not b) (has_say_task setup first_seats_of m p bytes 0 len e (omega arith) l)
        | inr (inl same) ↦ absurd (let f : Some (SayStep p bytes) ≡ Some SettleStep = sym e ∙ ap (slice_get setup.steps) same ∙ settle in cc)
        | inr (inr more) ↦
            let f : nat_lt m (0 + len + 1) ≡ false = grind (arith, nat_tests) in
            ap (λ b. b && nat_lt m (0 + len + 1) && not (has_task (group_tasks setup first_seats_of 0 len) m 0)) (ap is_say e)
            ∙ ap (λ b. true && b && not (has_task (group_tasks setup first_seats_of 0 len) m 0)) f
      ]

  pub first_part : part_of_state first ≡ first_operator setup
  first_part = λ i. record {
    group = 0;
    issued = λ m. none_issued m i;
    given = λ k. (begun_given setup 0 0 len first_slots_of first_seats_of first_ready k ∙ without k) i;
    source = λ k. (begun_source setup 0 0 len first_slots_of first_seats_of first_ready k ∙ no_source k) i;
    outcome = λ k. (begun_outcome setup 0 0 len first_slots_of first_seats_of first_ready k ∙ no_outcome k) i;
  }
    where
      without : (k : ℕ)
          → gift_or (gift_in_group setup 0 (placement setup (with_slots setup first_slots_of)) (graft_at setup k)) (given_in setup first_slots_of k)
          ≡ (first_operator setup).given k
      without k = λ i. gift_or
          (gift_in_group setup 0 (placement setup
          (record { group = 0; issued = λ n. false; given = λ j. no_gift j i; source = λ j. no_source j i; outcome = λ j. no_outcome j i }))
          (graft_at setup k)) (no_gift k i)
