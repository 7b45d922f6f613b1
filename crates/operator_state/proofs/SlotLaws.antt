-- What slots say of sources, outcomes and targets, slot by slot.
use Rattle.std.proofs.Common.{◌≡◌, ℕ, zero, suc, ◌+◌, ◌<◌, ◌==◌, true, false, List, [], ◌∷◌, length}
use Rattle.std.proofs.Common.{Option, Some, None, refl, sym, ap, ◌∙◌, subst, inl, inr, arith}
use Rattle.std.specs.Prelude.{◌≢◌, slice_get, slice_set}
use Rattle.std.specs.Option.{option_and_then}
use Rattle.std.proofs.lemmas.Bool.Decides.{nat_tests}
use Rattle.std.proofs.lemmas.Option.{slice_get_within}
use Rattle.graft_steps.specs.declared.log.GraftEntry.{GraftEntry}
use Rattle.graft_steps.specs.declared.log.GraftStage.{GraftStage}
use Rattle.graft_steps.specs.declared.log.GraftStage.TheVariants.{Waiting, Issued, Ended}
use Rattle.graft_model.specs.Points.{at}
use Rattle.graft_model.specs.Setups.{Setup, ScriptStep, SayStep, MoveStep, EvacuateStep, SettleStep, ScriptGraft, peerings_in, moved_by, grafts_in, graft_at}
use Rattle.graft_model.specs.Parts.{To}
use Rattle.graft_model.specs.Placements.{target_by}
use Rattle.graft_model.proofs.Numbers.{number_of_index, graft_by_index, IsOfStep, step_of_graft, peering_of_index}
use Rattle.operator_state.specs.declared.grafts.Slot.{Slot}
use Rattle.operator_state.specs.declared.grafts.Slot.TheVariants.{Unmade, Stays, Made}
use Rattle.operator_state.specs.declared.groups.Task.{Task}
use Rattle.operator_state.specs.Grafts.{is_waiting, is_open, outcome_at}
use Rattle.operator_state.specs.Slots.{slot_at, source_at, slot_source, outcome_of, given_of, source_in, outcome_in, given_in, scripted_step}
use Rattle.operator_state.specs.Keeps.{StepsAreSound, emptied_by, IsSlotOf, IsSlot, SlotsStand}
use Rattle.operator_state.proofs.Lists.{by_test, get_set_same, get_set_other, there_is}

pub slot_next : (slots : List Slot) (k : ℕ) → slot_at slots (k + 1) ≡ slice_get slots k
slot_next slots k = let e : k + 1 ≡ suc k = omega arith in ap (slot_at slots) e

pub source_is : (slots : List Slot) (k : ℕ) (entry : GraftEntry) → slice_get slots k ≡ Some (Made entry) → source_in slots (k + 1) ≡ source_at entry
source_is slots k entry e = ap slot_source (slot_next slots k ∙ e)

pub outcome_is : (slots : List Slot) (k : ℕ) (entry : GraftEntry) → slice_get slots k ≡ Some (Made entry) → outcome_in slots (k + 1) ≡ outcome_at entry.stage
outcome_is slots k entry e = ap outcome_of (slot_next slots k ∙ e)

-- ---- a slot that is replaced

module _ {A : Type 0} (of : ℕ → Option Slot → A) where
  pub value_set : (slots : List Slot) (k : ℕ) (slot : Slot) → k < length slots → (n : ℕ)
      → of n (slot_at (slice_set slots k slot) n) ≡ at (λ m. of m (slot_at slots m)) (k + 1) (of (k + 1) (Some slot)) n
  value_set slots k slot l zero = let e : (0 == k + 1) ≡ false = grind (arith, nat_tests) in rw e refl
  value_set slots k slot l (suc n) = elim (by_test (n == k)) [
    | inl e ↦
        let f : n ≡ k = grind (arith, nat_tests) in
        let g : (suc n == k + 1) ≡ true = grind (arith, nat_tests) in
        let h : suc n ≡ k + 1 = omega arith in
        rw g (ap (of (suc n)) (ap (slice_get (slice_set slots k slot)) f ∙ get_set_same slots k slot l) ∙ ap (λ m. of m (Some slot)) h)
    | inr e ↦
        let f : n ≢ k = λ same. grind (arith, nat_tests) in
        let g : (suc n == k + 1) ≡ false = grind (arith, nat_tests) in
        rw g (ap (of (suc n)) (get_set_other slots k n slot f))
  ]

  -- where the value is as before, all are
  pub value_stays : (slots : List Slot) (k : ℕ) (old slot : Slot) → slice_get slots k ≡ Some old → k < length slots
      → of (k + 1) (Some slot) ≡ of (k + 1) (Some old) → (n : ℕ)
      → of n (slot_at (slice_set slots k slot) n) ≡ of n (slot_at slots n)
  value_stays slots k old slot is l same zero = refl
  value_stays slots k old slot is l same (suc n) = elim (by_test (n == k)) [
    | inl e ↦
        let f : n ≡ k = grind (arith, nat_tests) in
        let h : suc n ≡ k + 1 = omega arith in
        ap (of (suc n)) (ap (slice_get (slice_set slots k slot)) f ∙ get_set_same slots k slot l) ∙ ap (λ m. of m (Some slot)) h ∙ same
        ∙ sym (ap (of (suc n)) (ap (slice_get slots) f ∙ is) ∙ ap (λ m. of m (Some old)) h)
    | inr e ↦ ap (of (suc n)) (get_set_other slots k n slot (λ same. grind (arith, nat_tests)))
  ]

pub source_set : (slots : List Slot) (k : ℕ) (entry : GraftEntry) → k < length slots
    → source_in (slice_set slots k (Made entry)) ≡ at (source_in slots) (k + 1) (source_at entry)
source_set slots k entry l = λ i n. value_set (λ m. slot_source) slots k (Made entry) l n i

pub outcome_set : (slots : List Slot) (k : ℕ) (entry : GraftEntry) → k < length slots
    → outcome_in (slice_set slots k (Made entry)) ≡ at (outcome_in slots) (k + 1) (outcome_at entry.stage)
outcome_set slots k entry l = λ i n. value_set (λ m. outcome_of) slots k (Made entry) l n i

module _ (slots : List Slot) (k : ℕ) (old entry : GraftEntry) (is : slice_get slots k ≡ Some (Made old)) where
  within : k < length slots
  within = slice_get_within slots k (Made old) is

  pub source_stays : source_at entry ≡ source_at old → source_in (slice_set slots k (Made entry)) ≡ source_in slots
  source_stays same = λ i n. value_stays (λ m. slot_source) slots k (Made old) (Made entry) is within same n i

  pub outcome_stays : outcome_at entry.stage ≡ outcome_at old.stage → outcome_in (slice_set slots k (Made entry)) ≡ outcome_in slots
  outcome_stays same = λ i n. value_stays (λ m. outcome_of) slots k (Made old) (Made entry) is within same n i

  pub given_stays : (setup : Setup) → entry.target ≡ old.target → given_in setup (slice_set slots k (Made entry)) ≡ given_in setup slots
  given_stays setup same =
      λ i n. value_stays (λ m. given_of (scripted_step setup m)) slots k (Made old) (Made entry) is within (by_step (scripted_step setup (k + 1))) n i
    where
      by_step : (o : Option ScriptStep) → given_of o (Some (Made entry)) ≡ given_of o (Some (Made old))
      by_step None = refl
      by_step (Some (SayStep p bytes)) = refl
      by_step (Some (MoveStep p target)) = refl
      by_step (Some (EvacuateStep router)) = ap (λ t. To t.0) same
      by_step (Some SettleStep) = refl

-- ---- the slot of a graft

pub graft_there : (setup : Setup) (i : ℕ) (g : ScriptGraft) → slice_get (grafts_in setup) i ≡ Some g → graft_at setup g.graft ≡ Some g
graft_there setup i g at = let e : g.graft ≡ suc i = omega (arith, number_of_index setup i g at) in ap (graft_at setup) e ∙ graft_by_index setup i ∙ at

-- the target of what is in a slot
abbrev pub target_at : Slot → Option ℕ
target_at Unmade = None
target_at (Stays k p router) = None
target_at (Made entry) = Some entry.target.0

made_target : (o : Option ScriptStep) (entry : GraftEntry) → target_by o (To entry.target.0) ≡ Some entry.target.0
    → target_by o (given_of o (Some (Made entry))) ≡ Some entry.target.0
made_target None entry e = absurd cc
made_target (Some (SayStep p bytes)) entry e = absurd cc
made_target (Some (MoveStep p target)) entry e = e
made_target (Some (EvacuateStep router)) entry e = refl
made_target (Some SettleStep) entry e = absurd cc

unmade_target : (o : Option ScriptStep) → emptied_by o ≢ None → target_by o (given_of o (Some Unmade)) ≡ None
unmade_target None ne = absurd (ne refl)
unmade_target (Some (SayStep p bytes)) ne = absurd (ne refl)
unmade_target (Some (MoveStep p target)) ne = absurd (ne refl)
unmade_target (Some (EvacuateStep router)) ne = refl
unmade_target (Some SettleStep) ne = absurd (ne refl)

stays_target : (o : Option ScriptStep) (k : ℕ) (p : _) (router : _) → emptied_by o ≢ None → target_by o (given_of o (Some (Stays k p router))) ≡ None
stays_target None k p router ne = absurd (ne refl)
stays_target (Some (SayStep q bytes)) k p router ne = absurd (ne refl)
stays_target (Some (MoveStep q target)) k p router ne = absurd (ne refl)
stays_target (Some (EvacuateStep r)) k p router ne = refl
stays_target (Some SettleStep) k p router ne = absurd (ne refl)

slot_target : (setup : Setup) (g : ScriptGraft) (slot : Slot) → IsSlotOf setup g slot
    → target_by (slice_get setup.steps g.step) (given_of (slice_get setup.steps g.step) (Some slot)) ≡ target_at slot
slot_target setup g Unmade fits = unmade_target (slice_get setup.steps g.step) (fits.unmade refl)
slot_target setup g (Stays k p router) fits =
    stays_target (slice_get setup.steps g.step) k p router (λ none. let e : Some router.0 ≡ None = sym (fits.stays k p router refl).emptied ∙ none in cc)
slot_target setup g (Made entry) fits = made_target (slice_get setup.steps g.step) entry (fits.made entry refl).target

module _ (setup : Setup) (slots : List Slot) (i : ℕ) (g : ScriptGraft) (at_index : slice_get (grafts_in setup) i ≡ Some g) where
  pub number : g.graft ≡ i + 1
  number = number_of_index setup i g at_index

  pub own_slot : slot_at slots g.graft ≡ slice_get slots i
  own_slot = ap (slot_at slots) number ∙ slot_next slots i

  pub own_source : (entry : GraftEntry) → slice_get slots i ≡ Some (Made entry) → source_in slots g.graft ≡ source_at entry
  own_source entry e = ap slot_source (own_slot ∙ e)

  pub own_outcome : (entry : GraftEntry) → slice_get slots i ≡ Some (Made entry) → outcome_in slots g.graft ≡ outcome_at entry.stage
  own_outcome entry e = ap outcome_of (own_slot ∙ e)

  pub own_step : scripted_step setup g.graft ≡ slice_get setup.steps g.step
  own_step = ap (λ o. option_and_then (λ (x : ScriptGraft). slice_get setup.steps x.step) o) (graft_there setup i g at_index)

  pub own_given : (slot : Slot) → slice_get slots i ≡ Some slot → given_in setup slots g.graft ≡ given_of (slice_get setup.steps g.step) (Some slot)
  own_given slot e = ap (λ o. given_of o (slot_at slots g.graft)) own_step ∙ ap (given_of (slice_get setup.steps g.step)) (own_slot ∙ e)

  -- the target of a graft is that of its slot
  pub own_target : (slot : Slot) → slice_get slots i ≡ Some slot → IsSlotOf setup g slot
      → target_by (slice_get setup.steps g.step) (given_in setup slots g.graft) ≡ target_at slot
  own_target slot e fits = ap (target_by (slice_get setup.steps g.step)) (own_given slot e) ∙ slot_target setup g slot fits

-- a slot and the graft whose it is
pub record IsOwned (setup : Setup) (group : ℕ) (tasks : List Task) (i : ℕ) (slot : Slot) : Type 0 where
  pub graft : ScriptGraft
  pub index : slice_get (grafts_in setup) i ≡ Some graft
  pub is : IsSlot setup group tasks graft slot

module _ (setup : Setup) (group : ℕ) (tasks : List Task) (slots : List Slot) (stand : SlotsStand setup group tasks slots) where
  pub owner : (i : ℕ) (slot : Slot) → slice_get slots i ≡ Some slot → IsOwned setup group tasks i slot
  owner i slot e =
      let l : i < length slots = slice_get_within slots i slot e in
      let all : length slots ≡ length (grafts_in setup) = stand.all in
      let found = there_is (grafts_in setup) i (omega arith) in
      record { graft = found.0; index = found.1; is = stand.each i found.0 slot found.1 e }

  -- the slot of a graft
  pub slot_there : (i : ℕ) (g : ScriptGraft) → slice_get (grafts_in setup) i ≡ Some g
      → (slot : Slot) × (slice_get slots i ≡ Some slot) × IsSlot setup group tasks g slot
  slot_there i g e =
      let l : i < length (grafts_in setup) = slice_get_within (grafts_in setup) i g e in
      let all : length slots ≡ length (grafts_in setup) = stand.all in
      let found = there_is slots i (omega arith) in
      (found.0, found.1, stand.each i g found.0 e found.1)

-- the peering of a graft is there
pub peering_there : (setup : Setup) → StepsAreSound setup → (g : ScriptGraft) → graft_at setup g.graft ≡ Some g → g.peering < peerings_in setup
peering_there setup sound g known = by_step of_step.step of_step.there of_step.moved
  where
    of_step : IsOfStep setup g
    of_step = step_of_graft setup g.graft g known

    by_step : (step : ScriptStep) → slice_get setup.steps g.step ≡ Some step → slice_get (moved_by setup step) of_step.index ≡ Some g.peering
        → g.peering < peerings_in setup
    by_step (SayStep p bytes) e moved = absurd cc
    by_step (MoveStep p target) e moved = subst (λ (q : ℕ). q < peerings_in setup) (only p of_step.index moved) (sound.moves g.step p target e).0
      where
        only : (q i : ℕ) → slice_get (q ∷ []) i ≡ Some g.peering → q ≡ g.peering
        only q zero f = cc
        only q (suc i) f = absurd cc
    by_step (EvacuateStep router) e moved = (peering_of_index setup of_step.index g.peering moved).1
    by_step SettleStep e moved = absurd cc

pub same_entry : (one other : GraftEntry) → Some (Made one) ≡ Some (Made other) → one ≡ other
same_entry one other e = cc

-- ---- stages

pub open_is_not_waiting : (stage : GraftStage) → is_open stage ≡ true → is_waiting stage ≡ false
open_is_not_waiting Waiting e = absurd cc
open_is_not_waiting Issued e = refl
open_is_not_waiting (Ended outcome) e = refl

pub open_has_no_outcome : (stage : GraftStage) → is_open stage ≡ true → outcome_at stage ≡ None
open_has_no_outcome Waiting e = refl
open_has_no_outcome Issued e = refl
open_has_no_outcome (Ended outcome) e = absurd cc

pub waiting_has_no_outcome : (stage : GraftStage) → is_waiting stage ≡ true → outcome_at stage ≡ None
waiting_has_no_outcome Waiting e = refl
waiting_has_no_outcome Issued e = refl
waiting_has_no_outcome (Ended outcome) e = absurd cc

pub ended_is_not_open : (stage : GraftStage) → outcome_at stage ≢ None → is_open stage ≡ false
ended_is_not_open Waiting ne = refl
ended_is_not_open Issued ne = absurd (ne refl)
ended_is_not_open (Ended outcome) ne = refl

pub waiting_is_not_open : (stage : GraftStage) → is_waiting stage ≡ true → is_open stage ≡ false
waiting_is_not_open Waiting e = refl
waiting_is_not_open Issued e = absurd cc
waiting_is_not_open (Ended outcome) e = refl

-- one that was ordered and isn't open has ended
pub ordered_has_ended : (stage : GraftStage) → is_waiting stage ≡ false → is_open stage ≡ false → outcome_at stage ≢ None
ordered_has_ended Waiting e f = absurd cc
ordered_has_ended Issued e f = absurd cc
ordered_has_ended (Ended outcome) e f = λ none. cc
