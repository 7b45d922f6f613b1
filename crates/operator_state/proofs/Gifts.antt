-- What the steps of a group give: for which grafts, in which order, into which slots; and that an evacuate step gives what the laboratory has it give.
use Rattle.std.proofs.Common.{◌≡◌, ℕ, suc, ◌+◌, ◌-◌, ◌<◌, ◌≤◌, eqb, cond, Bool, true, false, List, [], ◌∷◌, length}
use Rattle.std.proofs.Common.{map, Option, Some, None, refl, sym, ap, ◌∙◌, subst, inl, inr, arith}
use Rattle.std.specs.Prelude.{◌≢◌, slice_get, slice_set, zip, filter}
use Rattle.std.specs.List.{find, range_with_len, AllByRecursion}
use Rattle.std.specs.Option.{option_map, option_or}
use Rattle.std.proofs.lemmas.Bool.{cases_eq, ne_eqb, eq-eqb}
use Rattle.std.proofs.lemmas.Option.{same_Some}
use Rattle.std.proofs.lemmas.List.{length-map}
use Rattle.std.proofs.lemmas.List.FromFn.{length-range_with_len}
use Rattle.std.proofs.lemmas.List.Sums.{sum_by-cons}
use Rattle.graft_edge.specs.declared.ids.PeeringId.{PeeringId}
use Rattle.graft_edge.specs.declared.ids.RouterId.{RouterId}
use Rattle.evacuation.specs.Plans.{TargetList, Plan, Done, Given, NotGiven, one_more_load, plan_for}
use Rattle.evacuation.proofs.Loads.{length-one_more}
use Rattle.evacuation.proofs.ThePlan.{plan_for-plan}
use Rattle.graft_model.specs.Setups.{Setup, ScriptStep, SayStep, MoveStep, EvacuateStep, SettleStep, ScriptGraft}
use Rattle.graft_model.specs.Setups.{routers_in, router_numbers, peerings_in, grafts_before, graft_at}
use Rattle.graft_model.specs.Evacuations.{peerings_at, loads_of as loads_by, rooms_of, targets_from, gift_of as gift_from, gift_to}
use Rattle.graft_model.proofs.Numbers.{graft_of_step, numbered_peering, numbers_rise}
use Rattle.operator_state.specs.declared.evacuate.Gift.{Gift}
use Rattle.operator_state.specs.declared.grafts.Seat.{Seat}
use Rattle.operator_state.specs.declared.grafts.Slot.{Slot}
use Rattle.operator_state.specs.Slots.{slot_gift}
use Rattle.operator_state.specs.Evacuate.{load_of, seat_loads, seated_from, gift_for, given_slot, give}
use Rattle.operator_state.proofs.Lists.{get_set_same, get_set_other, length_set, all_map}
use Rattle.operator_state.proofs.GiftLists.{Sorted, none_found, all_range, find_range, sorted_range}
use Rattle.operator_state.proofs.Ready.{gifts_of, gifts_at, group_gifts}

-- ---- gifts by the numbers of their grafts

abbrev pub IsEarlier : Gift → Gift → Type 0
IsEarlier gift other = gift.graft < other.graft

abbrev pub has_number : ℕ → Gift → Bool
has_number k gift = eqb gift.graft k

-- the first gift of a graft's number
abbrev pub gift_numbered : ℕ → List Gift → Option Gift
gift_numbered k gifts = find (has_number k) gifts

later_is_other : (gift other : Gift) (k : ℕ) → gift.graft ≡ k → IsEarlier gift other → has_number k other ≡ false
later_is_other gift other k is later = ne_eqb other.graft k (omega (arith, is, later))

pub length_give : (gifts : List Gift) (slots : List Slot) → length (give gifts slots) ≡ length slots
length_give [] slots = refl
length_give (gift ∷ gifts) slots = length_give gifts (slice_set slots (gift.graft - 1) (given_slot gift)) ∙ length_set slots (gift.graft - 1) (given_slot gift)

-- a slot once all is given
pub give_at : (gifts : List Gift) (slots : List Slot) (i : ℕ) → i < length slots → AllByRecursion (λ gift. 1 ≤ gift.graft) gifts → Sorted IsEarlier gifts
    → slice_get (give gifts slots) i ≡ option_or (option_map given_slot (gift_numbered (suc i) gifts)) (slice_get slots i)
give_at [] slots i within counted sorted = refl
give_at (gift ∷ gifts) slots i within counted sorted =
    let more : List Slot = slice_set slots (gift.graft - 1) (given_slot gift) in
    let one : 1 ≤ gift.graft = counted.0 in
    let len = length_set slots (gift.graft - 1) (given_slot gift) in
    let rest = give_at gifts more i (omega (arith, len, within)) counted.1 sorted.1 in
    elim (cases_eq gift.graft (suc i)) [
      | inl is ↦
          let index : gift.graft - 1 ≡ i = omega (arith, is) in
          let none = none_found (has_number (suc i)) gifts (all_map (IsEarlier gift)
          (λ other. has_number (suc i) other ≡ false) gifts (λ other later. later_is_other gift other (suc i) is later) sorted.0) in
          rest
          ∙ (ap (λ (o : Option Gift). option_or (option_map given_slot o) (slice_get more i)) none
          ∙ (ap (λ (p : ℕ). slice_get (slice_set slots p (given_slot gift)) i) index
          ∙ (get_set_same slots i (given_slot gift) within
          ∙ ap (λ (b : Bool). option_or (option_map given_slot (cond b (Some gift) (gift_numbered (suc i) gifts))) (slice_get slots i))
          (sym (eq-eqb gift.graft (suc i) is)))))
      | inr other ↦
          let elsewhere : i ≢ gift.graft - 1 = λ e. other (omega (arith, e, one)) in
          rest
          ∙ (ap (option_or (option_map given_slot (gift_numbered (suc i) gifts))) (get_set_other slots (gift.graft - 1) i (given_slot gift) elsewhere)
          ∙ ap (λ (b : Bool). option_or (option_map given_slot (cond b (Some gift) (gift_numbered (suc i) gifts))) (slice_get slots i))
          (sym (ne_eqb gift.graft (suc i) other)))
    ]

-- ---- the peerings of a router

abbrev IsLower : PeeringId → PeeringId → Type 0
IsLower p q = p.0 < q.0

seated_within : (q : ℕ) (router : RouterId) (seats : List Seat) → AllByRecursion (λ p. (q ≤ p.0) × (p.0 < q + length seats)) (seated_from q router seats)
seated_within q router [] = tt
seated_within q router (seat ∷ seats) =
    let rest = all_map (λ p. (q + 1 ≤ p.0) × (p.0 < q + 1 + length seats))
    (λ p. (q ≤ p.0) × (p.0 < q + length (seat ∷ seats))) (seated_from (q + 1) router seats)
    (λ p is. (omega (arith, is.0), omega (arith, is.1))) (seated_within (q + 1) router seats) in
    elim (eqb seat.place.0 router.0) as (λ b. AllByRecursion (λ p. (q ≤ p.0) × (p.0 < q + length (seat ∷ seats)))
    (cond b (record { 0 = q } ∷ seated_from (q + 1) router seats) (seated_from (q + 1) router seats))) [
      | true ↦ ((omega arith, omega arith), rest)
      | false ↦ rest
    ]

seated_rises : (q : ℕ) (router : RouterId) (seats : List Seat) → Sorted IsLower (seated_from q router seats)
seated_rises q router [] = tt
seated_rises q router (seat ∷ seats) =
    elim (eqb seat.place.0 router.0)
    as (λ b. Sorted IsLower (cond b (record { 0 = q } ∷ seated_from (q + 1) router seats) (seated_from (q + 1) router seats))) [
      | true ↦ (
        all_map (λ p. (q + 1 ≤ p.0) × (p.0 < q + 1 + length seats)) (IsLower (record { 0 = q }))
            (seated_from (q + 1) router seats) (λ p is. omega (arith, is.0)) (seated_within (q + 1) router seats),
        seated_rises (q + 1) router seats,
      )
      | false ↦ seated_rises (q + 1) router seats
    ]

-- ---- the targets of a plan

abbrev pub IsBelow : ℕ → Option RouterId → Type 0
IsBelow n None = Unit {0}
IsBelow n (Some r) = r.0 < n

plan_below : (rooms : List ℕ) (from n : ℕ) (loads : List ℕ) (count : ℕ) (targets : TargetList) → Plan rooms from loads count targets
    → length loads ≡ n → AllByRecursion (IsBelow n) targets
plan_below rooms from n loads count targets Done e = tt
plan_below rooms from n loads count targets (Given r least rest) e =
    let below = least.free.in_range in
    (omega (arith, below, e), plan_below rooms from n (one_more_load loads r.0) _ _ rest (length-one_more loads r.0 ∙ e))
plan_below rooms from n loads count targets (NotGiven full rest) e = (tt, plan_below rooms from n loads _ _ rest e)

-- ---- what one step gives

module _ (first : ℕ) (router : RouterId) where
  abbrev gifts_in : List PeeringId → TargetList → List Gift
  gifts_in ps ts = map (gift_for first router) (zip ps ts)

  gifts_all : (P : Gift → Type 0) (Q : PeeringId → Type 0) (R : Option RouterId → Type 0)
      → ((p : PeeringId) (t : Option RouterId) → Q p → R t → P (gift_for first router (p, t)))
      → (ps : List PeeringId) (ts : TargetList) → AllByRecursion Q ps → AllByRecursion R ts → AllByRecursion P (gifts_in ps ts)
  gifts_all P Q R each [] ts all others = tt
  gifts_all P Q R each (p ∷ ps) [] all others = tt
  gifts_all P Q R each (p ∷ ps) (t ∷ ts) all others = (each p t all.0 others.0, gifts_all P Q R each ps ts all.1 others.1)

  any_target : (ts : TargetList) → AllByRecursion (λ (t : Option RouterId). Unit {0}) ts
  any_target [] = tt
  any_target (t ∷ ts) = (tt, any_target ts)

  gifts_rise : (ps : List PeeringId) (ts : TargetList) → Sorted IsLower ps → Sorted IsEarlier (gifts_in ps ts)
  gifts_rise [] ts rises = tt
  gifts_rise (p ∷ ps) [] rises = tt
  gifts_rise (p ∷ ps) (t ∷ ts) rises = (
    gifts_all (IsEarlier (gift_for first router (p, t))) (IsLower p) (λ u. Unit {0}) (λ q u lower any. omega (arith, lower)) ps ts rises.0 (any_target ts),
    gifts_rise ps ts rises.1,
  )

  slot_says : (k : ℕ) (p : PeeringId) (t : Option RouterId) (q : ℕ)
      → slot_gift (Some (given_slot (record { graft = k; peering = p; router = router; target = t }))) ≡ gift_from router.0 (Some (q, t))
  slot_says k p None q = refl
  slot_says k p (Some target) q = refl

  -- what a graft's slot says, and what stands beside its peering
  slot_of_found : (p k : ℕ) → k ≡ first + p → (ps : List PeeringId) (ts : TargetList)
      → slot_gift (option_map given_slot (gift_numbered k (gifts_in ps ts))) ≡ gift_from router.0 (find (λ e. eqb e.0 p) (zip (map (λ q. q.0) ps) ts))
  slot_of_found p k is [] ts = refl
  slot_of_found p k is (q ∷ ps) [] = refl
  slot_of_found p k is (q ∷ ps) (t ∷ ts) = elim (cases_eq q.0 p) [
    | inl same ↦
        ap (λ (b : Bool). slot_gift (option_map given_slot (cond b (Some (gift_for first router (q, t))) (gift_numbered k (gifts_in ps ts)))))
        (eq-eqb (first + q.0) k (omega (arith, same, is)))
        ∙ (slot_says (first + q.0) q t q.0
        ∙ ap (λ (b : Bool). gift_from router.0 (cond b (Some (q.0, t)) (find (λ e. eqb e.0 p) (zip (map (λ q. q.0) ps) ts)))) (sym (eq-eqb q.0 p same)))
    | inr other ↦
        ap (λ (b : Bool). slot_gift (option_map given_slot (cond b (Some (gift_for first router (q, t))) (gift_numbered k (gifts_in ps ts)))))
        (ne_eqb (first + q.0) k (λ e. other (omega (arith, e, is))))
        ∙ (slot_of_found p k is ps ts
        ∙ ap (λ (b : Bool). gift_from router.0 (cond b (Some (q.0, t)) (find (λ e. eqb e.0 p) (zip (map (λ q. q.0) ps) ts)))) (sym (ne_eqb q.0 p other)))
  ]

-- ---- seats, and where the laboratory indices sessions

abbrev pub ArePlaced : (ℕ → ℕ) → ℕ → List Seat → Type 0
ArePlaced placed q seats = (i : ℕ) (seat : Seat) → slice_get seats i ≡ Some seat → seat.place.0 ≡ placed (q + i)

module _ (placed : ℕ → ℕ) where
  first_placed : (q : ℕ) (seat : Seat) (seats : List Seat) → ArePlaced placed q (seat ∷ seats) → seat.place.0 ≡ placed q
  first_placed q seat seats are = are 0 seat refl ∙ ap placed (let e : q + 0 ≡ q = omega arith in e)

  others_placed : (q : ℕ) (seat : Seat) (seats : List Seat) → ArePlaced placed q (seat ∷ seats) → ArePlaced placed (q + 1) seats
  others_placed q seat seats are i other at = are (suc i) other at ∙ ap placed (let e : q + suc i ≡ q + 1 + i = omega arith in e)

  seated_is : (router : RouterId) (q : ℕ) (seats : List Seat) → ArePlaced placed q seats
      → map (λ p. p.0) (seated_from q router seats) ≡ filter (λ p. eqb (placed p) router.0) (range_with_len q (length seats))
  seated_is router q [] are = refl
  seated_is router q (seat ∷ seats) are =
      let rest = seated_is router (q + 1) seats (others_placed q seat seats are) in
      let others : List ℕ = filter (λ p. eqb (placed p) router.0) (range_with_len (q + 1) (length seats)) in
      ap (λ (r : ℕ). map (λ (p : PeeringId). p.0)
      (cond (eqb r router.0) (record { 0 = q } ∷ seated_from (q + 1) router seats) (seated_from (q + 1) router seats))) (first_placed q seat seats are)
      ∙ (elim (eqb (placed q) router.0) as (λ b. map (λ (p : PeeringId). p.0)
      (cond b (record { 0 = q } ∷ seated_from (q + 1) router seats) (seated_from (q + 1) router seats)) ≡ cond b (q ∷ others) others) [
        | true ↦ ap (◌∷◌ q) rest
        | false ↦ rest
      ])

  load_is : (r q : ℕ) (seats : List Seat) → ArePlaced placed q seats
      → load_of seats r ≡ length (filter (λ p. eqb (placed p) r) (range_with_len q (length seats)))
  load_is r q [] are = refl
  load_is r q (seat ∷ seats) are =
      let rest = load_is r (q + 1) seats (others_placed q seat seats are) in
      let others : List ℕ = filter (λ p. eqb (placed p) r) (range_with_len (q + 1) (length seats)) in
      sum_by-cons (λ (s : Seat). cond (eqb s.place.0 r) 1 0) seat seats
      ∙ (ap (λ (z : ℕ). cond (eqb z r) 1 0 + load_of seats r) (first_placed q seat seats are)
      ∙ (elim (eqb (placed q) r) as (λ b. cond b 1 0 + load_of seats r ≡ length (cond b (q ∷ others) others)) [
        | true ↦ omega (arith, rest)
        | false ↦ omega (arith, rest)
      ]))

-- ---- the gifts of a laboratory's steps

-- A gift is one of the evacuate step at this index: for a graft of it, to a router of the laboratory if to any.
pub record IsGiftOf (setup : Setup) (m : ℕ) (gift : Gift) : Type 0 where
  pub step : slice_get setup.steps m ≡ Some (EvacuateStep gift.router.0)
  pub graft : graft_at setup gift.graft ≡ Some (record { graft = gift.graft; peering = gift.peering.0; step = m })
  pub there : IsBelow (routers_in setup) gift.target

-- and it is one of a step of the group
pub record IsGiftWithin (setup : Setup) (from len : ℕ) (gift : Gift) : Type 0 where
  pub index : ℕ
  pub behind : from ≤ index
  pub within : index < from + len
  pub of : IsGiftOf setup index gift

module _ (setup : Setup) (seats : List Seat) where
  length-loads : length (seat_loads seats (routers_in setup)) ≡ routers_in setup
  length-loads = length-map (range_with_len 0 (routers_in setup)) (load_of seats) ∙ length-range_with_len 0 (routers_in setup)

  gift_is_of : (m : ℕ) (router : RouterId) (p : PeeringId) (t : Option RouterId) → slice_get setup.steps m ≡ Some (EvacuateStep router.0)
      → p.0 < peerings_in setup → IsBelow (routers_in setup) t
      → IsGiftOf setup m (gift_for (grafts_before setup m + 1) router (p, t))
  gift_is_of m router p t at there below =
      let number : grafts_before setup m + p.0 + 1 ≡ grafts_before setup m + 1 + p.0 = omega arith in
      record {
        step = at;
        graft = subst (λ (z : ℕ). graft_at setup z ≡ Some (record { graft = z; peering = p.0; step = m })) number
            (graft_of_step setup m p.0 p.0 (EvacuateStep router.0) at (numbered_peering setup p.0 there));
        there = below;
      }

  pub gifts_are : length seats ≡ peerings_in setup → (m : ℕ) → AllByRecursion (IsGiftOf setup m) (gifts_at setup seats m)
  gifts_are all m = by_step (slice_get setup.steps m) refl where
    by_step : (o : Option ScriptStep) → slice_get setup.steps m ≡ o → AllByRecursion (IsGiftOf setup m) (gifts_of setup seats (grafts_before setup m + 1) o)
    by_step None e = tt
    by_step (Some (SayStep p bytes)) e = tt
    by_step (Some (MoveStep p target)) e = tt
    by_step (Some SettleStep) e = tt
    by_step (Some (EvacuateStep r)) e =
        let router : RouterId = record { 0 = r } in
        let ps : List PeeringId = seated_from 0 router seats in
        let plan = plan_for-plan (rooms_of setup) r (seat_loads seats (routers_in setup)) (length ps) in
        gifts_all (grafts_before setup m + 1) router (IsGiftOf setup m) (λ p. p.0 < peerings_in setup)
        (IsBelow (routers_in setup)) (λ p t there below. gift_is_of m router p t e there below) ps
        (plan_for (rooms_of setup) r (seat_loads seats (routers_in setup)) (length ps))
        (all_map (λ p. (0 ≤ p.0) × (p.0 < 0 + length seats)) (λ p. p.0 < peerings_in setup) ps
        (λ p is. omega (arith, is.1, all)) (seated_within 0 router seats))
        (plan_below (rooms_of setup) r (routers_in setup) (seat_loads seats (routers_in setup)) (length ps) _ plan length-loads)

  pub gifts_of_step_rise : (number : ℕ) (o : Option ScriptStep) → Sorted IsEarlier (gifts_of setup seats number o)
  gifts_of_step_rise number None = tt
  gifts_of_step_rise number (Some (SayStep p bytes)) = tt
  gifts_of_step_rise number (Some (MoveStep p target)) = tt
  gifts_of_step_rise number (Some SettleStep) = tt
  gifts_of_step_rise number (Some (EvacuateStep r)) =
      gifts_rise number (record { 0 = r }) (seated_from 0 (record { 0 = r }) seats) _ (seated_rises 0 (record { 0 = r }) seats)

  pub group_gifts_rise : length seats ≡ peerings_in setup → (from len : ℕ) → Sorted IsEarlier (group_gifts setup seats from len)
  group_gifts_rise all from len = sorted_range (gifts_at setup seats) IsEarlier (IsGiftOf setup)
      (gifts_are all) (λ m. gifts_of_step_rise (grafts_before setup m + 1) (slice_get setup.steps m))
      (λ m n gift other less one another. numbers_rise setup (record { graft = gift.graft; peering = gift.peering.0; step = m })
      (record { graft = other.graft; peering = other.peering.0; step = n }) one.graft another.graft less)
      from len

  pub group_gifts_are : length seats ≡ peerings_in setup → (from len : ℕ) → AllByRecursion (IsGiftWithin setup from len) (group_gifts setup seats from len)
  group_gifts_are all from len = all_range (gifts_at setup seats) (IsGiftWithin setup from len) from len (λ m behind within.
      all_map (IsGiftOf setup m) (IsGiftWithin setup from len) (gifts_at setup seats m)
      (λ gift is. record { index = m; behind = behind; within = within; of = is }) (gifts_are all m))

  -- no step but a graft's own gives to it
  given_by_own : length seats ≡ peerings_in setup → (g : ScriptGraft) (k : ℕ) → graft_at setup k ≡ Some g → (m : ℕ) → m ≢ g.step
      → gift_numbered k (gifts_at setup seats m) ≡ None
  given_by_own all g k known m other =
      none_found (has_number k) (gifts_at setup seats m) (all_map (IsGiftOf setup m) (λ gift. has_number k gift ≡ false) (gifts_at setup seats m)
      (λ gift is. ne_eqb gift.graft k (λ same. other (step_of gift is same))) (gifts_are all m))
    where
      step_of : (gift : Gift) → IsGiftOf setup m gift → gift.graft ≡ k → m ≡ g.step
      step_of gift is same =
          let mine : ScriptGraft = record { graft = gift.graft; peering = gift.peering.0; step = m } in
          let one : mine ≡ g = same_Some mine g (sym is.graft ∙ (ap (graft_at setup) same ∙ known)) in
          ap (λ (z : ScriptGraft). z.step) one

  pub numbered_in_group : length seats ≡ peerings_in setup → (g : ScriptGraft) (k : ℕ) → graft_at setup k ≡ Some g → (from len : ℕ) → from ≤ g.step
      → g.step < from + len
      → gift_numbered k (group_gifts setup seats from len) ≡ gift_numbered k (gifts_at setup seats g.step)
  numbered_in_group all g k known from len behind within =
      find_range (gifts_at setup seats) (has_number k) g.step from len (given_by_own all g k known) behind within

  -- ---- what the laboratory gives

  module _ (placed : ℕ → ℕ) (are : ArePlaced placed 0 seats) (all : length seats ≡ peerings_in setup) where
    seats_at : (r : ℕ) → map (λ (p : PeeringId). p.0) (seated_from 0 (record { 0 = r }) seats) ≡ peerings_at setup placed r
    seats_at r = seated_is placed (record { 0 = r }) 0 seats are ∙ ap (λ (n : ℕ). filter (λ p. eqb (placed p) r) (range_with_len 0 n)) all

    load_at : (r : ℕ) → load_of seats r ≡ length (peerings_at setup placed r)
    load_at r = load_is placed r 0 seats are ∙ ap (λ (n : ℕ). length (filter (λ p. eqb (placed p) r) (range_with_len 0 n))) all

    loads_are : seat_loads seats (routers_in setup) ≡ loads_by setup placed
    loads_are = λ i. map (λ r. load_at r i) (router_numbers setup)

    how_many : (r : ℕ) → length (seated_from 0 (record { 0 = r }) seats) ≡ length (peerings_at setup placed r)
    how_many r = sym (length-map (seated_from 0 (record { 0 = r }) seats) (λ (p : PeeringId). p.0)) ∙ ap length (seats_at r)

    targets_are : (r : ℕ)
        → plan_for (rooms_of setup) r (seat_loads seats (routers_in setup)) (length (seated_from 0 (record { 0 = r }) seats)) ≡ targets_from setup placed r
    targets_are r = ap (λ (loads : List ℕ). plan_for (rooms_of setup) r loads (length (seated_from 0 (record { 0 = r }) seats))) loads_are
        ∙ ap (plan_for (rooms_of setup) r (loads_by setup placed)) (how_many r)

    -- what a slot says of a graft of an evacuate step is what the graft is given
    pub gift_by_slot : (m r p k : ℕ) → slice_get setup.steps m ≡ Some (EvacuateStep r) → k ≡ grafts_before setup m + 1 + p
        → slot_gift (option_map given_slot (gift_numbered k (gifts_at setup seats m))) ≡ gift_to setup placed r p
    gift_by_slot m r p k at is =
        let router : RouterId = record { 0 = r } in
        let ps : List PeeringId = seated_from 0 router seats in
        ap (λ (o : Option ScriptStep). slot_gift (option_map given_slot (gift_numbered k (gifts_of setup seats (grafts_before setup m + 1) o)))) at
        ∙ (slot_of_found (grafts_before setup m + 1) router p k is ps _
        ∙ (ap (λ (ts : TargetList). gift_from r (find (λ e. eqb e.0 p) (zip (map (λ (q : PeeringId). q.0) ps) ts))) (targets_are r)
        ∙ ap (λ (qs : List ℕ). gift_from r (find (λ e. eqb e.0 p) (zip qs (targets_from setup placed r)))) (seats_at r)))
