-- A graft whose end is reported: what it makes, and what stays true.
use Rattle.std.proofs.Common.{◌≡◌, ℕ, zero, suc, ◌+◌, ◌<◌, ◌==◌, true, false, List, [], length, Option, Some, None}
use Rattle.std.proofs.Common.{refl, sym, ap, ◌∙◌, subst, inl, inr, arith}
use Rattle.std.specs.Prelude.{◌≢◌, ◌⊎◌, ◌↔◌, slice_get, if◌then◌else◌}
use Rattle.std.specs.Option.{option_map}
use Rattle.std.proofs.lemmas.Bool.Decides.{nat_tests}
use Rattle.std.proofs.lemmas.Option.{slice_get_within}
use Rattle.graft_edge.specs.declared.ids.RouterId.{RouterId}
use Rattle.graft_steps.specs.declared.log.GraftEntry.{GraftEntry}
use Rattle.graft_steps.specs.declared.log.GraftStage.{GraftStage}
use Rattle.graft_steps.specs.declared.log.GraftStage.TheVariants.{Waiting, Issued, Ended}
use Rattle.graft_steps.specs.declared.refusal.Outcome.{Outcome}
use Rattle.graft_steps.specs.declared.refusal.Outcome.TheVariants.{Accepted, Refused}
use Rattle.graft_model.specs.Points.{at}
use Rattle.graft_model.specs.Setups.{ScriptStep, SayStep, MoveStep, EvacuateStep, SettleStep, ScriptGraft, group_of, grafts_in, routers_in}
use Rattle.graft_model.specs.OperatorRows.{ReportIn, Notes}
use Rattle.graft_model.specs.Placements.{is_accepted, target_in, placement}
use Rattle.operator_state.specs.declared.grafts.Seat.{Seat}
use Rattle.operator_state.specs.declared.grafts.Slot.{Slot}
use Rattle.operator_state.specs.declared.grafts.Slot.TheVariants.{Unmade, Stays, Made}
use Rattle.operator_state.specs.Grafts.{is_waiting, is_open, outcome_at}
use Rattle.operator_state.specs.Slots.{source_at, slot_source, outcome_of, source_in, outcome_in, given_in}
use Rattle.operator_state.specs.States.{State, issued_in, part_of_state}
use Rattle.operator_state.specs.Keeps.{IsMade, IsSlot, is_first, InTurn, SlotsStand, NoneIsOpen, IsSeat, SeatsStand, OperatorInvariant, with_slots}
use Rattle.operator_state.specs.Notes.{IsOpenIndex, ended_entry, place_after, still_seat, graft_noted}
use Rattle.operator_state.proofs.Lists.{by_test, compare, get_set_same, get_set_other, length_set, one_member}
use Rattle.operator_state.proofs.SlotLaws.{source_is, outcome_is, outcome_set, source_stays, given_stays, number}
use Rattle.operator_state.proofs.SlotLaws.{own_slot, own_outcome, own_target, IsOwned, owner, slot_there, same_entry}
use Rattle.operator_state.proofs.SlotLaws.{open_is_not_waiting, open_has_no_outcome, waiting_has_no_outcome}
use Rattle.operator_state.proofs.Placed.{placed_at, placed_alike}

module _ (s : State) (keeps : OperatorInvariant s) (k : ℕ) (old : GraftEntry)
    (old_is : slice_get s.slots k ≡ Some (Made old)) (open_is : is_open old.stage ≡ true) (outcome : Outcome)
    (seat : Seat) (seated : slice_get s.seats old.peering.0 ≡ Some seat) where
  abbrev after : State
  after = graft_noted s k old outcome seat

  abbrev new_entry : GraftEntry
  new_entry = ended_entry old outcome

  abbrev new_seat : Seat
  new_seat = still_seat outcome old.target seat

  within : k < length s.slots
  within = slice_get_within s.slots k (Made old) old_is

  ordered : is_waiting old.stage ≡ false
  ordered = open_is_not_waiting old.stage open_is

  at_new : slice_get after.slots k ≡ Some (Made new_entry)
  at_new = get_set_same s.slots k (Made new_entry) within

  at_other : (i : ℕ) → i ≢ k → slice_get after.slots i ≡ slice_get s.slots i
  at_other i ne = get_set_other s.slots k i (Made new_entry) ne

  which : (i : ℕ) (slot : Slot) → slice_get after.slots i ≡ Some slot → ((i ≡ k) × (slot ≡ Made new_entry)) ⊎ ((i ≢ k) × (slice_get s.slots i ≡ Some slot))
  which i slot e = elim (by_test (i == k)) [
    | inl f ↦ let g : i ≡ k = grind (arith, nat_tests) in inl (g, one_member (slice_get after.slots k) _ _ (sym (ap (slice_get after.slots) g) ∙ e) at_new)
    | inr f ↦ let g : i ≢ k = λ same. grind (arith, nat_tests) in inr (g, sym (at_other i g) ∙ e)
  ]

  which_entry : (i : ℕ) (one : GraftEntry) → slice_get after.slots i ≡ Some (Made one)
      → ((i ≡ k) × (one ≡ new_entry)) ⊎ ((i ≢ k) × (slice_get s.slots i ≡ Some (Made one)))
  which_entry i one e = elim (which i (Made one) e) [ inl (is, new) ↦ inl (is, same_entry one new_entry (ap Some new)) | inr other ↦ inr other ]

  own : IsOwned s.setup s.group s.waiting k (Made old)
  own = owner s.setup s.group s.waiting s.slots keeps.slots k (Made old) old_is

  abbrev g : ScriptGraft
  g = own.graft

  names : IsMade s.setup g old
  names = own.is.fits.made old refl

  new_slot : IsSlot s.setup s.group s.waiting g (Made new_entry)
  new_slot = record {
    fits = record {
      unmade = λ e. absurd cc;
      stays = λ n p router e. absurd cc;
      made = λ one e. subst (IsMade s.setup g) (same_entry new_entry one (ap Some e)) (record {
        graft = names.graft;
        peering = names.peering;
        target = names.target;
        there = names.there;
        source = (λ none. absurd (let f : true ≡ false = sym (names.source.0 none) ∙ ordered in cc), λ f. absurd cc);
      });
    };
    past = λ less one e. subst (λ (x : GraftEntry). outcome_at x.stage ≢ None) (same_entry new_entry one (ap Some e)) (λ h. cc);
    now = λ e. sym ordered ∙ own.is.now e;
    later = λ more. absurd (not_first more);
  }
    where
      -- an open one isn't of a later group
      not_first : s.group < group_of s.setup g.step → ⊥
      not_first more = by_step (slice_get s.setup.steps g.step) (own.is.later more)
        where
          by_step : (o : Option ScriptStep) → is_first o (Made old) ≡ true → ⊥
          by_step None e = cc
          by_step (Some (SayStep p bytes)) e = cc
          by_step (Some (MoveStep p target)) e = let f : false ≡ true = sym ordered ∙ e in cc
          by_step (Some (EvacuateStep router)) e = cc
          by_step (Some SettleStep) e = cc

  slots_stand : SlotsStand s.setup s.group s.waiting after.slots
  slots_stand = record {
    all = length_set s.slots k (Made new_entry) ∙ keeps.slots.all;
    each = λ i x slot at_index e. elim (which i slot e) [
      | inl (is, new) ↦
          let same : g ≡ x = one_member (slice_get (grafts_in s.setup) k) _ _ own.index (sym (ap (slice_get (grafts_in s.setup)) is) ∙ at_index) in
          subst (λ (y : ScriptGraft). IsSlot s.setup s.group s.waiting y slot) same (subst (IsSlot s.setup s.group s.waiting g) (sym new) new_slot)
      | inr (ne, there) ↦ keeps.slots.each i x slot at_index there
    ];
    in_turn = in_turn;
  }
    where
      in_turn : InTurn after.slots
      in_turn i j one other l e f same ordered_other = elim (which_entry i one e) [
        | inl (at_k, is_new) ↦ subst (λ (x : GraftEntry). outcome_at x.stage ≢ None) (sym is_new) (λ h. cc)
        | inr (ne, there) ↦ elim (which_entry j other f) [
          | inl (at_k, is_new) ↦ keeps.slots.in_turn i k one old (omega arith) there old_is (same ∙ ap (λ (x : GraftEntry). x.peering.0) is_new) ordered
          | inr (ne', there') ↦ keeps.slots.in_turn i j one other l there there' same ordered_other
        ]
      ]

  -- no other graft of the peering is open
  none_open : NoneIsOpen after.slots old.peering.0
  none_open i entry e of_p = elim (which_entry i entry e) [
    | inl (at_k, is_new) ↦ ap (λ (x : GraftEntry). is_open x.stage) is_new
    | inr (ne, there) ↦ elim (by_test (is_open entry.stage)) [
      | inr f ↦ f
      | inl f ↦ elim (compare i k) [
        | inl l ↦ absurd (keeps.slots.in_turn i k entry old l there old_is of_p ordered (open_has_no_outcome entry.stage f))
        | inr (inl same) ↦ absurd (ne same)
        | inr (inr l) ↦
            absurd (keeps.slots.in_turn k i old entry l old_is there (sym of_p) (open_is_not_waiting entry.stage f) (open_has_no_outcome old.stage open_is))
      ]
    ]
  ]

  outcome_is_set : outcome_in after.slots ≡ at (outcome_in s.slots) (k + 1) (Some outcome)
  outcome_is_set = outcome_set s.slots k new_entry within

  same_given : given_in s.setup after.slots ≡ given_in s.setup s.slots
  same_given = given_stays s.slots k old new_entry old_is s.setup refl

  pub was_none : outcome_in s.slots (k + 1) ≡ None
  was_none = outcome_is s.slots k old old_is ∙ open_has_no_outcome old.stage open_is

  -- the outcome of a graft of another number is as it was
  other_outcome : (n : ℕ) → n ≢ k + 1 → outcome_in after.slots n ≡ outcome_in s.slots n
  other_outcome n ne = ap (λ (f : ℕ → Option Outcome). f n) outcome_is_set
      ∙ (let e : (n == k + 1) ≡ false = grind (arith, nat_tests) in ap (λ b. if b then Some outcome else outcome_in s.slots n) e)

  this_outcome : outcome_in after.slots (k + 1) ≡ Some outcome
  this_outcome = ap (λ (f : ℕ → Option Outcome). f (k + 1)) outcome_is_set
      ∙ (let e : (k + 1 == k + 1) ≡ true = grind (arith, nat_tests) in ap (λ b. if b then Some outcome else outcome_in s.slots (k + 1)) e)

  -- targets are as they were
  same_target : (x : ScriptGraft) → target_in s.setup (with_slots s.setup after.slots) x ≡ target_in s.setup (with_slots s.setup s.slots) x
  same_target x =
      λ i. target_in s.setup (record { group = 0; issued = λ n. false; given = same_given i; source = source_in s.slots; outcome = outcome_in s.slots }) x

  -- a graft of the script with this number is the one at this index
  index_is : (j : ℕ) (x : ScriptGraft) → slice_get (grafts_in s.setup) j ≡ Some x → x.graft ≡ k + 1 → (j ≡ k) × (g ≡ x)
  index_is j x there e =
      let n : x.graft ≡ j + 1 = number s.setup s.slots j x there in
      let at_k : j ≡ k = omega arith in
      (at_k, one_member (slice_get (grafts_in s.setup) k) _ _ own.index (sym (ap (slice_get (grafts_in s.setup)) at_k) ∙ there))

  -- other peerings are placed as before
  other_place : (q : ℕ) → q ≢ old.peering.0 → placement s.setup (with_slots s.setup after.slots) q ≡ placement s.setup (with_slots s.setup s.slots) q
  other_place q ne = placed_alike s.setup q (with_slots s.setup after.slots) (with_slots s.setup s.slots)
      (λ j x there of_q. ap is_accepted
      (other_outcome x.graft (λ same. ne (sym of_q ∙ sym (ap (λ (y : ScriptGraft). y.peering) (index_is j x there same).1) ∙ sym names.peering))))
      (λ j x there accepted. same_target x)

  is_seat : IsSeat s.setup s.slots old.peering.0 seat
  is_seat = keeps.seats.each old.peering.0 seat seated

  -- the peering is placed at the target where it was accepted, else as before
  this_place : (o : Outcome) → outcome ≡ o → (place_after o seat.place old.target).0 ≡ placement s.setup (with_slots s.setup after.slots) old.peering.0
  this_place Accepted e = sym (placed_at s.setup old.peering.0 (with_slots s.setup after.slots) k g old.target.0 own.index (sym names.peering)
      (ap is_accepted (ap (outcome_in after.slots) (number s.setup s.slots k g own.index) ∙ this_outcome ∙ ap Some e)) later
      (own_target s.setup after.slots k g own.index (Made new_entry) at_new new_slot.fits))
    where
      later : (j : ℕ) (x : ScriptGraft) → k < j → slice_get (grafts_in s.setup) j ≡ Some x → x.peering ≡ old.peering.0
          → is_accepted (outcome_in after.slots x.graft) ≡ false
      later j x l there of_p = ap is_accepted (other_outcome x.graft (λ same. (let n : x.graft ≡ j + 1 = number s.setup s.slots j x there in omega arith)))
          ∙ by_slot (slot_there s.setup s.group s.waiting s.slots keeps.slots j x there)
        where
          by_slot : (slot : Slot) × (slice_get s.slots j ≡ Some slot) × IsSlot s.setup s.group s.waiting x slot
              → is_accepted (outcome_in s.slots x.graft) ≡ false
          by_slot (Unmade, e', is) = ap (λ o. is_accepted (outcome_of o)) (own_slot s.setup s.slots j x there ∙ e')
          by_slot (Stays n p router, e', is) = ap (λ o. is_accepted (outcome_of o)) (own_slot s.setup s.slots j x there ∙ e')
          by_slot (Made one, e', is) =
              let same : old.peering.0 ≡ one.peering.0 = sym of_p ∙ sym (is.fits.made one refl).peering in
              let waits : is_waiting one.stage ≡ true = elim (by_test (is_waiting one.stage)) [
                | inl w ↦ w
                | inr w ↦ absurd (keeps.slots.in_turn k j old one l old_is e' same w (open_has_no_outcome old.stage open_is))
              ] in
              ap is_accepted (own_outcome s.setup s.slots j x there one e' ∙ waiting_has_no_outcome one.stage waits)
  this_place (Refused refusal) e = is_seat.place ∙ sym (placed_alike s.setup old.peering.0 (with_slots s.setup after.slots) (with_slots s.setup s.slots)
      (λ j x there of_p. elim (by_test (x.graft == k + 1)) [
        | inl f ↦
            let same : x.graft ≡ k + 1 = grind (arith, nat_tests) in
            ap is_accepted (ap (outcome_in after.slots) same ∙ this_outcome ∙ ap Some e) ∙ sym (ap is_accepted (ap (outcome_in s.slots) same ∙ was_none))
        | inr f ↦ ap is_accepted (other_outcome x.graft (λ same. grind (arith, nat_tests)))
      ])
      (λ j x there accepted. same_target x))

  seats_stand : SeatsStand s.setup after.slots after.seats
  seats_stand = record {
    all = length_set s.seats old.peering.0 new_seat ∙ keeps.seats.all;
    each = λ q other e. elim (by_test (q == old.peering.0)) [
      | inl f ↦
          let same : q ≡ old.peering.0 = grind (arith, nat_tests) in
          let moved : other ≡ new_seat = one_member (slice_get after.seats old.peering.0) _ _ (sym (ap (slice_get after.seats) same) ∙ e)
          (get_set_same s.seats old.peering.0 new_seat (slice_get_within s.seats old.peering.0 seat seated)) in
          subst (λ (x : ℕ). IsSeat s.setup after.slots x other) (sym same) (subst (λ (x : Seat). IsSeat s.setup after.slots old.peering.0 x) (sym moved) here)
      | inr f ↦
          let ne : q ≢ old.peering.0 = λ same. grind (arith, nat_tests) in
          other_seat q other ne (keeps.seats.each q other (sym (get_set_other s.seats old.peering.0 q new_seat ne) ∙ e))
    ];
  }
    where
      place_there : (o : Outcome) → (place_after o seat.place old.target).0 < routers_in s.setup
      place_there Accepted = names.there
      place_there (Refused refusal) = is_seat.there

      here : IsSeat s.setup after.slots old.peering.0 new_seat
      here = record { place = this_place outcome refl; there = place_there outcome; still = (λ e. none_open, λ none. refl) }

      other_seat : (q : ℕ) (other : Seat) → q ≢ old.peering.0 → IsSeat s.setup s.slots q other → IsSeat s.setup after.slots q other
      other_seat q other ne was = record {
        place = was.place ∙ sym (other_place q ne);
        there = was.there;
        still = (
          λ e i entry f of_q. elim (which_entry i entry f) [
            | inl (at_k, is_new) ↦ ap (λ (x : GraftEntry). is_open x.stage) is_new
            | inr (differs, there) ↦ was.still.0 e i entry there of_q
          ],
          λ none. was.still.1 (λ i entry f of_q. elim (by_test (i == k)) [
            | inl e ↦
                let same : i ≡ k = grind (arith, nat_tests) in
                let is_old : entry ≡ old = same_entry entry old (sym f ∙ ap (slice_get s.slots) same ∙ old_is) in
                absurd (ne (sym of_q ∙ ap (λ (x : GraftEntry). x.peering.0) is_old))
            | inr e ↦
                let differs : i ≢ k = λ same. grind (arith, nat_tests) in
                none i entry (at_other i differs ∙ f) of_q
          ]),
        );
      }

  pub note_keeps : OperatorInvariant after
  note_keeps = record { sound = keeps.sound; ends = keeps.ends; waiting = keeps.waiting; rising = keeps.rising; slots = slots_stand; seats = seats_stand }

  pub note_ordered : source_in s.slots (k + 1) ≢ None
  note_ordered none = absurd (let e : true ≡ false = sym (names.source.0 (no_value old.source (sym (source_is s.slots k old old_is) ∙ none))) ∙ ordered in cc)
    where
      no_value : (o : Option RouterId) → option_map (λ r. r.0) o ≡ None → o ≡ None
      no_value None e' = refl
      no_value (Some r) e' = absurd cc

  pub note_row : (router : ℕ) → Notes router (part_of_state s) (Some (ReportIn router (record { graft = k + 1; outcome = outcome }))) [] (part_of_state after)
  note_row router = record {
    report = record { graft = k + 1; outcome = outcome };
    takes = refl;
    sends = refl;
    ordered = note_ordered;
    unended = was_none;
    effect = λ i. record { group = s.group; issued = issued_in s; given = same_given i; source = same_sources i; outcome = outcome_is_set i };
  }
    where
      same_sources : source_in after.slots ≡ source_in s.slots
      same_sources = source_stays s.slots k old new_entry old_is refl

-- ---- reports

-- a graft with a source and without an outcome is open
open_at : (slots : List Slot) (k : ℕ)
    → ((i : ℕ) (entry : GraftEntry) → slice_get slots i ≡ Some (Made entry) → (entry.source ≡ None) ↔ (is_waiting entry.stage ≡ true))
    → source_in slots k ≢ None → outcome_in slots k ≡ None
    → (index : ℕ) × (entry : GraftEntry) × (slice_get slots index ≡ Some (Made entry)) × (index + 1 ≡ k) × (is_open entry.stage ≡ true)
open_at slots zero sources ordered unended = absurd (ordered refl)
open_at slots (suc j) sources ordered unended = by_slot (slice_get slots j) refl
  where
    opened : (entry : GraftEntry) → ((entry.source ≡ None) ↔ (is_waiting entry.stage ≡ true)) → source_at entry ≢ None
        → outcome_at entry.stage ≡ None → is_open entry.stage ≡ true
    opened entry source has none = by_stage entry.stage refl
      where
        by_stage : (stage : GraftStage) → entry.stage ≡ stage → is_open entry.stage ≡ true
        by_stage Waiting e = absurd (has (ap (λ o. option_map (λ r. r.0) o) (source.1 (ap is_waiting e))))
        by_stage Issued e = ap is_open e
        by_stage (Ended outcome) e = absurd (let f : Some outcome ≡ None = sym (ap outcome_at e) ∙ none in cc)

    by_slot : (o : Option Slot) → slice_get slots j ≡ o
        → (index : ℕ) × (entry : GraftEntry) × (slice_get slots index ≡ Some (Made entry)) × (index + 1 ≡ suc j) × (is_open entry.stage ≡ true)
    by_slot None e = absurd (ordered (ap slot_source e))
    by_slot (Some Unmade) e = absurd (ordered (ap slot_source e))
    by_slot (Some (Stays k p router)) e = absurd (ordered (ap slot_source e))
    by_slot (Some (Made entry)) e = (
      j,
      entry,
      e,
      omega arith,
      opened entry (sources j entry e) (λ none. ordered (ap slot_source e ∙ none)) (sym (ap outcome_of e) ∙ unended),
    )

module _ (s : State) (keeps : OperatorInvariant s) (k : ℕ) where
  -- no graft that was ordered and hasn't ended has a number of which none is open
  pub none_to_note : IsOpenIndex s.slots k None → source_in s.slots k ≢ None → outcome_in s.slots k ≡ None → ⊥
  none_to_note none ordered unended =
      let found = open_at s.slots k
      (λ i entry e. ((owner s.setup s.group s.waiting s.slots keeps.slots i (Made entry) e).is.fits.made entry refl).source) ordered unended in
      let closed : is_open found.1.stage ≡ false = none found.0 found.1 found.2 found.3 in
      let opened : is_open found.1.stage ≡ true = found.4 in
      let e : true ≡ false = sym opened ∙ closed in
      cc

  -- the report of one that is open may be noted
  module _ (index : ℕ) (is_index : IsOpenIndex s.slots k (Some index)) (entry : GraftEntry) (there : slice_get s.slots index ≡ Some (Made entry)) where
    pub noted_is_open : is_open entry.stage ≡ true
    noted_is_open = ap (λ (e : GraftEntry). is_open e.stage) (same_entry entry is_index.0 (sym there ∙ is_index.1)) ∙ is_index.3

    pub noted_row : (outcome : Outcome) (seat : Seat) → slice_get s.seats entry.peering.0 ≡ Some seat → (router : ℕ)
        → Notes router (part_of_state s) (Some (ReportIn router (record { graft = k; outcome = outcome }))) []
        (part_of_state (graft_noted s index entry outcome seat))
    noted_row outcome seat seated router =
        subst (λ (j : ℕ). Notes router (part_of_state s) (Some (ReportIn router (record { graft = j; outcome = outcome }))) []
        (part_of_state (graft_noted s index entry outcome seat))) is_index.2
        (note_row s keeps index entry there noted_is_open outcome seat seated router)
