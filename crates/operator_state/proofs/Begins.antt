-- A group begins: what its evacuate steps give is what the laboratory has them give, and what stays true.
use Rattle.std.proofs.Common.{◌≡◌, ◌≢◌, ℕ, zero, suc, ◌+◌, ◌<◌, ◌≤◌, eqb, cond, Bool, true, false, List, [], ◌∷◌, length}
use Rattle.std.proofs.Common.{Option, Some, None, is_some, refl, sym, ap, ◌∙◌, subst, inl, inr, arith}
use Rattle.std.specs.Prelude.{All, ◌⊎◌, slice_get}
use Rattle.std.specs.Option.{option_map, option_or, option_and_then}
use Rattle.std.proofs.lemmas.Bool.{cases_eq, ne_eqb, eq-eqb, eqb-true}
use Rattle.std.proofs.lemmas.Option.{same_Some, slice_get_within}
use Rattle.graft_edge.specs.declared.ids.PeeringId.{PeeringId}
use Rattle.graft_edge.specs.declared.ids.RouterId.{RouterId}
use Rattle.graft_steps.specs.declared.log.GraftEntry.{GraftEntry}
use Rattle.graft_model.specs.Setups.{Setup, ScriptStep, SayStep, MoveStep, EvacuateStep, SettleStep, ScriptGraft}
use Rattle.graft_model.specs.Setups.{routers_in, moved_by, group_of, grafts_in, grafts_before, graft_at}
use Rattle.graft_model.specs.Parts.{Gift as GiftOf, Unmade as NoGift, To, Stays as StaysAt}
use Rattle.graft_model.specs.Placements.{placement, is_accepted, target_by}
use Rattle.graft_model.specs.Evacuations.{gift_to, gift_by, gift_in_group, gift_or}
use Rattle.graft_model.proofs.Numbers.{number_of_index, graft_by_index, index_of_graft, no_graft_zero, step_of_graft, steps_rise, peering_of_index}
use Rattle.operator_state.specs.declared.evacuate.Gift.{Gift}
use Rattle.operator_state.specs.declared.grafts.Seat.{Seat}
use Rattle.operator_state.specs.declared.grafts.Slot.{Slot}
use Rattle.operator_state.specs.declared.grafts.Slot.TheVariants.{Unmade, Stays, Made}
use Rattle.operator_state.specs.declared.groups.Task.{Task}
use Rattle.operator_state.specs.Grafts.{is_waiting, is_open}
use Rattle.operator_state.specs.Slots.{slot_at, scripted_step, slot_source, outcome_of, slot_gift, given_of, source_in, outcome_in, given_in, waiting_entry}
use Rattle.operator_state.specs.Tasks.{has_task}
use Rattle.operator_state.specs.Evacuate.{slot_to, given_slot, give}
use Rattle.operator_state.specs.States.{State}
use Rattle.operator_state.specs.Keeps.{OperatorInvariant, with_slots, emptied_by, IsMade, IsSlotOf, IsSlot}
use Rattle.operator_state.specs.Keeps.{slot_waits, is_unmade, is_first, InTurn, NoneIsOpen, IsSeat}
use Rattle.operator_state.proofs.Lists.{there_is, all_map}
use Rattle.operator_state.proofs.Scripts.{groups_rise}
use Rattle.operator_state.proofs.Placed.{placed_alike}
use Rattle.operator_state.proofs.SlotLaws.{graft_there}
use Rattle.operator_state.proofs.Ready.{group_gifts, group_tasks, gifts_at, IsReadySlot, IsReady}
use Rattle.operator_state.proofs.GiftLists.{all_by_index, found}
use Rattle.operator_state.proofs.Gifts.{has_number, gift_numbered, length_give, give_at, IsBelow, IsGiftWithin}
use Rattle.operator_state.proofs.Gifts.{group_gifts_rise, group_gifts_are, numbered_in_group, ArePlaced, gift_by_slot}
use Rattle.operator_state.proofs.GiftTasks.{makes, group_tasks_rise, group_tasks_wait, has_move_task, has_gift_task}
use Rattle.operator_state.proofs.GroupSpan.{group_in_span, in_span, span_ends}

-- ---- the slot of a gift

given_source : (k : ℕ) (p : PeeringId) (router : RouterId) (target : Option RouterId) → slot_source (Some (slot_to k p router target)) ≡ None
given_source k p router None = refl
given_source k p router (Some target) = refl

given_outcome : (k : ℕ) (p : PeeringId) (router : RouterId) (target : Option RouterId) → outcome_of (Some (slot_to k p router target)) ≡ None
given_outcome k p router None = refl
given_outcome k p router (Some target) = refl

given_waits : (k : ℕ) (p : PeeringId) (router : RouterId) (target : Option RouterId) → slot_waits (slot_to k p router target) ≡ is_some target
given_waits k p router None = refl
given_waits k p router (Some target) = refl

-- a graft that is made as the group begins waits, and isn't open
made_waits : (k : ℕ) (p : PeeringId) (router : RouterId) (target : Option RouterId) (entry : GraftEntry) → slot_to k p router target ≡ Made entry
    → (is_waiting entry.stage ≡ true) × (is_open entry.stage ≡ false)
made_waits k p router None entry e = absurd cc
made_waits k p router (Some target) entry e =
    let is : waiting_entry k (record { peering = p; target = target }) ≡ entry = cc in
    (ap (λ (z : GraftEntry). is_waiting z.stage) (sym is), ap (λ (z : GraftEntry). is_open z.stage) (sym is))

given_fits : (setup : Setup) (g : ScriptGraft) (k : ℕ) (p : PeeringId) (router : RouterId) (target : Option RouterId) → k ≡ g.graft → p.0 ≡ g.peering
    → slice_get setup.steps g.step ≡ Some (EvacuateStep router.0) → IsBelow (routers_in setup) target → IsSlotOf setup g (slot_to k p router target)
given_fits setup g k p router None number peering at there = record {
  unmade = λ e. absurd cc;
  stays = λ j q r e.
      let one : k ≡ j = cc in
      let two : p ≡ q = cc in
      let three : router ≡ r = cc in
      record {
        graft = sym one ∙ number;
        peering_is = ap (λ (z : PeeringId). z.0) (sym two) ∙ peering;
        emptied = ap emptied_by at ∙ ap (λ (z : RouterId). Some z.0) three;
      };
  made = λ entry e. absurd cc;
}
given_fits setup g k p router (Some target) number peering at there = record {
  unmade = λ e. absurd cc;
  stays = λ j q r e. absurd cc;
  made = λ entry e.
      let is : waiting_entry k (record { peering = p; target = target }) ≡ entry = cc in
      subst (IsMade setup g) is (record {
        graft = number;
        peering = peering;
        target = ap (λ (o : Option ScriptStep). target_by o (To target.0)) at;
        there = there;
        source = (λ e. refl, λ e. refl);
      });
}

is_unmade_only : (slot : Slot) → is_unmade slot ≡ true → slot ≡ Unmade
is_unmade_only Unmade e = refl
is_unmade_only (Stays k p router) e = absurd cc
is_unmade_only (Made entry) e = absurd cc

first_waits : (o : Option ScriptStep) (entry : GraftEntry) → is_first o (Made entry) ≡ true → is_waiting entry.stage ≡ true
first_waits None entry e = absurd cc
first_waits (Some (SayStep p bytes)) entry e = absurd cc
first_waits (Some (MoveStep p target)) entry e = e
first_waits (Some (EvacuateStep router)) entry e = absurd cc
first_waits (Some SettleStep) entry e = absurd cc

-- ---- gifts

or_none : (gift : GiftOf) → gift_or gift NoGift ≡ gift
or_none NoGift = refl
or_none (To target) = refl
or_none (StaysAt router) = refl

none_either : (b : Bool) (other : GiftOf) → gift_or (cond b NoGift NoGift) other ≡ other
none_either true other = refl
none_either false other = refl

gift_over_unmade : (o : Option Gift) → slot_gift (option_or (option_map given_slot o) (Some Unmade)) ≡ slot_gift (option_map given_slot o)
gift_over_unmade None = refl
gift_over_unmade (Some gift) = refl

-- ---- a graft's step

-- the number of a graft of an evacuate step, and of a graft step
evacuated_number : (setup : Setup) (k : ℕ) (g : ScriptGraft) (router : ℕ) → graft_at setup k ≡ Some g
    → slice_get setup.steps g.step ≡ Some (EvacuateStep router)
    → g.graft ≡ grafts_before setup g.step + 1 + g.peering
evacuated_number setup k g router known at =
    let of = step_of_graft setup k g known in
    let step : of.step ≡ EvacuateStep router = same_Some of.step (EvacuateStep router) (sym of.there ∙ at) in
    let moved : slice_get (moved_by setup (EvacuateStep router)) of.index ≡ Some g.peering =
    ap (λ (s : ScriptStep). slice_get (moved_by setup s) of.index) (sym step) ∙ of.moved in
    let index = peering_of_index setup of.index g.peering moved in
    omega (arith, of.number, index.0)

moved_number : (setup : Setup) (k : ℕ) (g : ScriptGraft) (p target : ℕ) → graft_at setup k ≡ Some g → slice_get setup.steps g.step ≡ Some (MoveStep p target)
    → g.graft ≡ grafts_before setup g.step + 1
moved_number setup k g p target known at =
    let of = step_of_graft setup k g known in
    let step : of.step ≡ MoveStep p target = same_Some of.step (MoveStep p target) (sym of.there ∙ at) in
    let moved : slice_get (p ∷ []) of.index ≡ Some g.peering = ap (λ (s : ScriptStep). slice_get (moved_by setup s) of.index) (sym step) ∙ of.moved in
    let index = slice_get_within (p ∷ []) of.index g.peering moved in
    omega (arith, of.number, index)

no_settle : (setup : Setup) (k : ℕ) (g : ScriptGraft) → graft_at setup k ≡ Some g → slice_get setup.steps g.step ≢ Some SettleStep
no_settle setup k g known at =
    let of = step_of_graft setup k g known in
    let step : of.step ≡ SettleStep = same_Some of.step SettleStep (sym of.there ∙ at) in
    let moved : slice_get [] of.index ≡ Some g.peering = ap (λ (s : ScriptStep). slice_get (moved_by setup s) of.index) (sym step) ∙ of.moved in
    absurd cc

module _ (setup : Setup) (group from len : ℕ) (slots : List Slot) (seats : List Seat) (ready : IsReady setup group from len slots seats) where
  abbrev pub begun_slots : List Slot
  begun_slots = give (group_gifts setup seats from len) slots

  abbrev pub begun : State
  begun = record { setup = setup; group = group; next = from + len + 1; waiting = group_tasks setup seats from len; slots = begun_slots; seats = seats }

  -- each gift has a slot
  gift_has_slot : (gift : Gift) → IsGiftWithin setup from len gift → (1 ≤ gift.graft) × (gift.graft ≤ length slots)
  gift_has_slot gift is =
      let index = index_of_graft setup gift.graft _ is.of.graft in
      let within = slice_get_within (grafts_in setup) index.0 _ index.2 in
      let all = ready.all in
      (omega (arith, index.1), omega (arith, index.1, within, all))

  pub gifts_have_slots : All (λ gift. (1 ≤ gift.graft) × (gift.graft ≤ length slots)) (group_gifts setup seats from len)
  gifts_have_slots = all_by_index (λ gift. (1 ≤ gift.graft) × (gift.graft ≤ length slots)) (group_gifts setup seats from len)
      (all_map (IsGiftWithin setup from len) (λ gift. (1 ≤ gift.graft) × (gift.graft ≤ length slots))
      (group_gifts setup seats from len) gift_has_slot (group_gifts_are setup seats ready.seated.all from len))

  -- ---- the slot of each graft

  abbrev number_given : ℕ → Option Gift
  number_given k = gift_numbered k (group_gifts setup seats from len)

  slot_begun : (i : ℕ) → i < length slots → slice_get begun_slots i ≡ option_or (option_map given_slot (number_given (suc i))) (slice_get slots i)
  slot_begun i within = give_at (group_gifts setup seats from len) slots i within
      (all_map (IsGiftWithin setup from len) (λ gift. 1 ≤ gift.graft) (group_gifts setup seats from len)
      (λ gift is. (gift_has_slot gift is).0) (group_gifts_are setup seats ready.seated.all from len))
      (group_gifts_rise setup seats ready.seated.all from len)

  graft_known : (i : ℕ) (g : ScriptGraft) → slice_get (grafts_in setup) i ≡ Some g → graft_at setup (suc i) ≡ Some g
  graft_known i g at = graft_by_index setup i ∙ at

  graft_number : (i : ℕ) (g : ScriptGraft) → slice_get (grafts_in setup) i ≡ Some g → g.graft ≡ suc i
  graft_number i g at = let n = number_of_index setup i g at in omega (arith, n)

  has_old : (i : ℕ) (g : ScriptGraft) → slice_get (grafts_in setup) i ≡ Some g → i < length slots
  has_old i g at = let within = slice_get_within (grafts_in setup) i g at in let all = ready.all in omega (arith, within, all)

  is_in_group : (n : ℕ) → from ≤ n → n < from + len → group_of setup n ≡ group
  is_in_group n behind within = group_in_span setup group from len ready.begins ready.others ready.settle n behind (omega (arith, within))

  in_group : (i : ℕ) (g : ScriptGraft) → slice_get (grafts_in setup) i ≡ Some g → group_of setup g.step ≡ group → (from ≤ g.step) × (g.step < from + len)
  in_group i g at is =
      in_span setup group from len ready.begins ready.others ready.settle ready.before g.step is (no_settle setup (suc i) g (graft_known i g at))

  -- the slot of a graft that an evacuate step of the group may make
  was_unmade : (i : ℕ) (g : ScriptGraft) (router : ℕ) → slice_get (grafts_in setup) i ≡ Some g → group_of setup g.step ≡ group
      → slice_get setup.steps g.step ≡ Some (EvacuateStep router) → slice_get slots i ≡ Some Unmade
  was_unmade i g router at is step =
      let old = there_is slots i (has_old i g at) in
      let later = (ready.each i g old.0 at old.1).later (omega (arith, is)) in
      old.1 ∙ ap Some (is_unmade_only old.0 (ap (λ (o : Option ScriptStep). is_first o old.0) (sym step) ∙ later))

  -- A graft is given its slot as the group begins.
  record IsGiven (i : ℕ) (g : ScriptGraft) : Type 0 where
    gift : Gift
    found : number_given (suc i) ≡ Some gift
    slot : slice_get begun_slots i ≡ Some (given_slot gift)
    unmade : slice_get slots i ≡ Some Unmade
    graft : gift.graft ≡ g.graft
    peering : gift.peering.0 ≡ g.peering
    step : slice_get setup.steps g.step ≡ Some (EvacuateStep gift.router.0)
    there : IsBelow (routers_in setup) gift.target
    group_is : group_of setup g.step ≡ group

  record IsKept (i : ℕ) : Type 0 where
    found : number_given (suc i) ≡ None
    slot : slice_get begun_slots i ≡ slice_get slots i

  about : (i : ℕ) (g : ScriptGraft) → slice_get (grafts_in setup) i ≡ Some g → IsGiven i g ⊎ IsKept i
  about i g at = by_found (number_given (suc i)) refl where
    by_found : (o : Option Gift) → number_given (suc i) ≡ o → IsGiven i g ⊎ IsKept i
    by_found None e = inr (record {
      found = e;
      slot = slot_begun i (has_old i g at) ∙ ap (λ (o : Option Gift). option_or (option_map given_slot o) (slice_get slots i)) e;
    })
    by_found (Some gift) e =
        let is = found (IsGiftWithin setup from len) (has_number (suc i))
        (group_gifts setup seats from len) gift (group_gifts_are setup seats ready.seated.all from len) e in
        let within : IsGiftWithin setup from len gift = is.0 in
        let number : gift.graft ≡ suc i = eqb-true gift.graft (suc i) is.1 in
        let mine : ScriptGraft = record { graft = gift.graft; peering = gift.peering.0; step = within.index } in
        let same : mine ≡ g = same_Some mine g (sym within.of.graft ∙ (ap (graft_at setup) number ∙ graft_known i g at)) in
        let index : within.index ≡ g.step = ap (λ (z : ScriptGraft). z.step) same in
        let step : slice_get setup.steps g.step ≡ Some (EvacuateStep gift.router.0) = ap (slice_get setup.steps) (sym index) ∙ within.of.step in
        let group_is : group_of setup g.step ≡ group = ap (group_of setup) (sym index) ∙ is_in_group within.index within.behind within.within in
        inl (record {
          gift = gift;
          found = e;
          slot = slot_begun i (has_old i g at) ∙ ap (λ (o : Option Gift). option_or (option_map given_slot o) (slice_get slots i)) e;
          unmade = was_unmade i g gift.router.0 at group_is step;
          graft = ap (λ (z : ScriptGraft). z.graft) same;
          peering = ap (λ (z : ScriptGraft). z.peering) same;
          step = step;
          there = within.of.there;
          group_is = group_is;
        })

  -- what becomes of the slot of a number
  changes : (k : ℕ)
      → (slot_at begun_slots k ≡ slot_at slots k) ⊎ ((gift : Gift) × (slot_at begun_slots k ≡ Some (given_slot gift)) × (slot_at slots k ≡ Some Unmade))
  changes zero = inl refl
  changes (suc i) = by_graft (slice_get (grafts_in setup) i) refl where
    past : (xs : List Slot) → length xs ≡ length (grafts_in setup) → slice_get (grafts_in setup) i ≡ None → slice_get xs i ≡ None
    past xs same none = by_slot (slice_get xs i) refl where
      by_slot : (o : Option Slot) → slice_get xs i ≡ o → o ≡ None
      by_slot None e = refl
      by_slot (Some slot) e =
          let within = slice_get_within xs i slot e in
          let g = there_is (grafts_in setup) i (omega (arith, within, same)) in
          let is : Some g.0 ≡ None = sym g.1 ∙ none in absurd cc

    by_graft : (o : Option ScriptGraft) → slice_get (grafts_in setup) i ≡ o
        → (slice_get begun_slots i ≡ slice_get slots i)
        ⊎ ((gift : Gift) × (slice_get begun_slots i ≡ Some (given_slot gift)) × (slice_get slots i ≡ Some Unmade))
    by_graft None e = inl (past begun_slots (length_give (group_gifts setup seats from len) slots ∙ ready.all) e ∙ sym (past slots ready.all e))
    by_graft (Some g) e = elim (about i g e) [
      | inl given ↦ inr (given.gift, given.slot, given.unmade)
      | inr kept ↦ inl kept.slot
    ]

  pub begun_source : (k : ℕ) → source_in begun_slots k ≡ source_in slots k
  begun_source k = elim (changes k) [
    | inl same ↦ ap slot_source same
    | inr given ↦ ap slot_source given.1 ∙ (given_source given.0.graft given.0.peering given.0.router given.0.target ∙ sym (ap slot_source given.2))
  ]

  pub begun_outcome : (k : ℕ) → outcome_in begun_slots k ≡ outcome_in slots k
  begun_outcome k = elim (changes k) [
    | inl same ↦ ap outcome_of same
    | inr given ↦ ap outcome_of given.1 ∙ (given_outcome given.0.graft given.0.peering given.0.router given.0.target ∙ sym (ap outcome_of given.2))
  ]

  -- ---- what is given

  abbrev placed : ℕ → ℕ
  placed = placement setup (with_slots setup slots)

  are_placed : ArePlaced placed 0 seats
  are_placed i seat at = (ready.seated.each i seat at).place ∙ ap placed (let e : i ≡ 0 + i = omega arith in e)

  abbrev Gives : ℕ → Option ScriptGraft → Type 0
  Gives i o = given_of (option_and_then (λ g. slice_get setup.steps g.step) o) (slice_get begun_slots i)
      ≡ gift_or (gift_in_group setup group placed o) (given_of (option_and_then (λ g. slice_get setup.steps g.step) o) (slice_get slots i))

  abbrev GivesBy : ℕ → ScriptGraft → Option ScriptStep → Type 0
  GivesBy i g o = given_of o (slice_get begun_slots i)
      ≡ gift_or (cond (eqb (group_of setup g.step) group) (gift_by setup placed o g.peering) NoGift) (given_of o (slice_get slots i))

  evacuate_gives : (i : ℕ) (g : ScriptGraft) (router : ℕ) → slice_get (grafts_in setup) i ≡ Some g
      → slice_get setup.steps g.step ≡ Some (EvacuateStep router) → GivesBy i g (Some (EvacuateStep router))
  evacuate_gives i g router at step = elim (cases_eq (group_of setup g.step) group) [
    | inl is ↦
        let span = in_group i g at is in
        let known = graft_known i g at in
        let number = evacuated_number setup (suc i) g router known step in
        let k = graft_number i g at in
        let unmade = was_unmade i g router at is step in
        let gift : GiftOf = gift_to setup placed router g.peering in
        ap slot_gift (slot_begun i (has_old i g at))
        ∙ (ap (λ (o : Option Slot). slot_gift (option_or (option_map given_slot (number_given (suc i))) o)) unmade
        ∙ (gift_over_unmade (number_given (suc i))
        ∙ (ap (λ (o : Option Gift). slot_gift (option_map given_slot o)) (numbered_in_group setup seats ready.seated.all g (suc i) known from len span.0 span.1)
        ∙ (gift_by_slot setup seats placed are_placed ready.seated.all g.step router g.peering (suc i) step (omega (arith, number, k))
        ∙ (sym (or_none gift)
        ∙ (ap (λ (o : Option Slot). gift_or gift (slot_gift o)) (sym unmade)
        ∙ ap (λ (b : Bool). gift_or (cond b gift NoGift) (slot_gift (slice_get slots i))) (sym (eq-eqb (group_of setup g.step) group is))))))))
    | inr other ↦ elim (about i g at) [
      | inl given ↦ absurd (other given.group_is)
      | inr kept ↦ ap slot_gift kept.slot
          ∙ ap (λ (b : Bool). gift_or (cond b (gift_to setup placed router g.peering) NoGift) (slot_gift (slice_get slots i)))
          (sym (ne_eqb (group_of setup g.step) group other))
    ]
  ]

  step_gives : (i : ℕ) (g : ScriptGraft) → slice_get (grafts_in setup) i ≡ Some g → (o : Option ScriptStep) → slice_get setup.steps g.step ≡ o → GivesBy i g o
  step_gives i g at None e = sym (none_either (eqb (group_of setup g.step) group) NoGift)
  step_gives i g at (Some (SayStep p bytes)) e = sym (none_either (eqb (group_of setup g.step) group) NoGift)
  step_gives i g at (Some (MoveStep p target)) e = sym (none_either (eqb (group_of setup g.step) group) NoGift)
  step_gives i g at (Some (EvacuateStep router)) e = evacuate_gives i g router at e
  step_gives i g at (Some SettleStep) e = sym (none_either (eqb (group_of setup g.step) group) NoGift)

  pub begun_given : (k : ℕ)
      → given_in setup begun_slots k
      ≡ gift_or (gift_in_group setup group (placement setup (with_slots setup slots)) (graft_at setup k)) (given_in setup slots k)
  begun_given zero = subst (λ (o : Option ScriptGraft). given_of (option_and_then (λ g. slice_get setup.steps g.step) o) None
      ≡ gift_or (gift_in_group setup group placed o) (given_of (option_and_then (λ g. slice_get setup.steps g.step) o) None)) (sym (no_graft_zero setup)) refl
  begun_given (suc i) = subst (Gives i) (sym (graft_by_index setup i)) (by_graft (slice_get (grafts_in setup) i) refl) where
    by_graft : (o : Option ScriptGraft) → slice_get (grafts_in setup) i ≡ o → Gives i o
    by_graft None e = refl
    by_graft (Some g) e = step_gives i g e (slice_get setup.steps g.step) refl

  -- ---- what stays true: slots

  abbrev begun_tasks : List Task
  begun_tasks = group_tasks setup seats from len

  given_stands : (i : ℕ) (g : ScriptGraft) → slice_get (grafts_in setup) i ≡ Some g → (given : IsGiven i g)
      → IsSlot setup group begun_tasks g (given_slot given.gift)
  given_stands i g at given =
      let span = in_group i g at given.group_is in
      let group_is = given.group_is in
      let router : ℕ = given.gift.router.0 in
      record {
        fits = given_fits setup g given.gift.graft given.gift.peering given.gift.router given.gift.target given.graft given.peering given.step given.there;
        past = λ less. absurd (omega (arith, less, group_is));
        now = λ same.
            given_waits given.gift.graft given.gift.peering given.gift.router given.gift.target
            ∙ (ap makes (sym given.found)
            ∙ (ap makes (numbered_in_group setup seats ready.seated.all g (suc i) (graft_known i g at) from len span.0 span.1)
            ∙ (ap (λ (k : ℕ). makes (gift_numbered k (gifts_at setup seats g.step))) (sym (graft_number i g at))
            ∙ sym (has_gift_task setup seats g.step g.graft router from len given.step span.0 span.1))));
        later = λ less. absurd (omega (arith, less, group_is));
      }

  kept_waits : (i : ℕ) (g : ScriptGraft) (slot : Slot) → slice_get (grafts_in setup) i ≡ Some g → number_given (suc i) ≡ None → group_of setup g.step ≡ group
      → (o : Option ScriptStep) → slice_get setup.steps g.step ≡ o → is_first o slot ≡ true → slot_waits slot ≡ has_task begun_tasks g.step g.graft
  kept_waits i g slot at none is None e first = absurd cc
  kept_waits i g slot at none is (Some (SayStep p bytes)) e first = absurd cc
  kept_waits i g slot at none is (Some (MoveStep p target)) e first =
      let span = in_group i g at is in
      first ∙ sym (has_move_task setup seats g.step g.graft p target from len e (moved_number setup (suc i) g p target (graft_known i g at) e) span.0 span.1)
  kept_waits i g slot at none is (Some (EvacuateStep router)) e first =
      let span = in_group i g at is in
      ap slot_waits (is_unmade_only slot first)
      ∙ (ap makes (sym none)
      ∙ (ap makes (numbered_in_group setup seats ready.seated.all g (suc i) (graft_known i g at) from len span.0 span.1)
      ∙ (ap (λ (k : ℕ). makes (gift_numbered k (gifts_at setup seats g.step))) (sym (graft_number i g at))
      ∙ sym (has_gift_task setup seats g.step g.graft router from len e span.0 span.1))))
  kept_waits i g slot at none is (Some SettleStep) e first = absurd cc

  begun_slot : (i : ℕ) (g : ScriptGraft) (slot : Slot) → slice_get (grafts_in setup) i ≡ Some g → slice_get begun_slots i ≡ Some slot
      → IsSlot setup group begun_tasks g slot
  begun_slot i g slot at is = elim (about i g at) [
    | inl given ↦ subst (IsSlot setup group begun_tasks g) (same_Some (given_slot given.gift) slot (sym given.slot ∙ is)) (given_stands i g at given)
    | inr kept ↦
        let old : IsReadySlot setup group g slot = ready.each i g slot at (sym kept.slot ∙ is) in
        record {
          fits = old.fits;
          past = old.past;
          now = λ same. kept_waits i g slot at kept.found same (slice_get setup.steps g.step) refl (old.later (omega (arith, same)));
          later = λ less. old.later (omega (arith, less));
        }
  ]

  length-begun : length begun_slots ≡ length (grafts_in setup)
  length-begun = length_give (group_gifts setup seats from len) slots ∙ ready.all

  -- the graft whose slot is at an index
  graft_of_slot : (i : ℕ) (slot : Slot) → slice_get begun_slots i ≡ Some slot → (g : ScriptGraft) × (slice_get (grafts_in setup) i ≡ Some g)
  graft_of_slot i slot is =
      let within = slice_get_within begun_slots i slot is in let all = length-begun in there_is (grafts_in setup) i (omega (arith, within, all))

  -- an entry is that of before, or of a graft that was made now, which waits
  entry_begun : (i : ℕ) (g : ScriptGraft) (entry : GraftEntry) → slice_get (grafts_in setup) i ≡ Some g → slice_get begun_slots i ≡ Some (Made entry)
      → (slice_get slots i ≡ Some (Made entry)) ⊎ ((is_waiting entry.stage ≡ true) × (is_open entry.stage ≡ false) × (group_of setup g.step ≡ group))
  entry_begun i g entry at is = elim (about i g at) [
    | inl given ↦
        let same : given_slot given.gift ≡ Made entry = same_Some (given_slot given.gift) (Made entry) (sym given.slot ∙ is) in
        let waits = made_waits given.gift.graft given.gift.peering given.gift.router given.gift.target entry same in
        inr (waits.0, waits.1, given.group_is)
    | inr kept ↦ inl (sym kept.slot ∙ is)
  ]

  begun_in_turn : InTurn begun_slots
  begun_in_turn i j one other less one_is other_is same ordered =
      let g = graft_of_slot i (Made one) one_is in
      let h = graft_of_slot j (Made other) other_is in
      elim (entry_begun j h.0 other h.1 other_is) [
        | inr new ↦ (let e : true ≡ false = sym new.0 ∙ ordered in absurd cc)
        | inl kept ↦ elim (entry_begun i g.0 one g.1 one_is) [
          | inl kept_one ↦ ready.in_turn i j one other less kept_one kept same ordered
          | inr new ↦
              let number = graft_number i g.0 g.1 in
              let number_two = graft_number j h.0 h.1 in
              let steps = steps_rise setup g.0 h.0 (graft_there setup i g.0 g.1) (graft_there setup j h.0 h.1) (omega (arith, number, number_two, less)) in
              let groups = groups_rise setup g.0.step h.0.step steps in
              let is = new.2 in
              let first = (ready.each j h.0 (Made other) h.1 kept).later (omega (arith, groups, is)) in
              let e : true ≡ false = sym (first_waits (slice_get setup.steps h.0.step) other first) ∙ ordered in
              absurd cc
        ]
      ]

  -- ---- what stays true: seats

  given_only_unmade : (k : ℕ) → is_accepted (outcome_in begun_slots k) ≡ true → slot_at slots k ≡ slot_at begun_slots k
  given_only_unmade k accepted = elim (changes k) [
    | inl same ↦ sym same
    | inr given ↦
        let none : outcome_in begun_slots k ≡ None = ap outcome_of given.1 ∙ given_outcome given.0.graft given.0.peering given.0.router given.0.target in
        let e : false ≡ true = sym (ap is_accepted none) ∙ accepted in absurd cc
  ]

  same_place : (p : ℕ) → placement setup (with_slots setup slots) p ≡ placement setup (with_slots setup begun_slots) p
  same_place p = placed_alike setup p (with_slots setup slots) (with_slots setup begun_slots) (λ j g there of_p. ap is_accepted (sym (begun_outcome g.graft)))
      (λ j g there accepted. ap (λ (o : Option Slot). target_by (slice_get setup.steps g.step) (given_of (scripted_step setup g.graft) o))
      (given_only_unmade g.graft accepted))

  none_opens : (p : ℕ) → NoneIsOpen slots p → NoneIsOpen begun_slots p
  none_opens p none i entry is of_p =
      let g = graft_of_slot i (Made entry) is in
      elim (entry_begun i g.0 entry g.1 is) [
        | inl kept ↦ none i entry kept of_p
        | inr new ↦ new.1
      ]

  none_was_open : (p : ℕ) → NoneIsOpen begun_slots p → NoneIsOpen slots p
  none_was_open p none i entry is of_p =
      let within = slice_get_within slots i (Made entry) is in
      let all = ready.all in
      let g = there_is (grafts_in setup) i (omega (arith, within, all)) in
      elim (about i g.0 g.1) [
        | inl given ↦ (let e : Some Unmade ≡ Some (Made entry) = sym given.unmade ∙ is in absurd cc)
        | inr kept ↦ none i entry (kept.slot ∙ is) of_p
      ]

  begun_seat : (p : ℕ) (seat : Seat) → slice_get seats p ≡ Some seat → IsSeat setup begun_slots p seat
  begun_seat p seat at =
      let old : IsSeat setup slots p seat = ready.seated.each p seat at in
      record {
        place = old.place ∙ same_place p;
        there = old.there;
        still = (λ e. none_opens p (old.still.0 e), λ none. old.still.1 (none_was_open p none));
      }

  pub begun_keeps : OperatorInvariant begun
  begun_keeps = record {
    sound = ready.sound;
    ends = span_ends setup group from len ready.begins ready.others ready.settle;
    waiting = group_tasks_wait setup seats group (from + len + 1) from len ready.seated.all is_in_group (omega arith);
    rising = group_tasks_rise setup seats from len;
    slots = record { all = length-begun; each = begun_slot; in_turn = begun_in_turn };
    seats = record { all = ready.seated.all; each = begun_seat };
  }
