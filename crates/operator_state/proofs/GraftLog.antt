-- The log of grafts, as the slots have it.
use Rattle.std.proofs.Common.{◌≡◌, ℕ, zero, suc, true, List, [], ◌∷◌, ◌++◌, length, Option, Some, None, refl, sym, ap, ◌∙◌, arith}
use Rattle.std.specs.Prelude.{◌↔◌, slice_get}
use Rattle.std.specs.List.{flat_map}
use Rattle.std.specs.Option.{option_map}
use Rattle.std.proofs.lemmas.Option.{same_Some}
use Rattle.graft_edge.specs.declared.ids.PeeringId.{PeeringId}
use Rattle.graft_edge.specs.declared.ids.RouterId.{RouterId}
use Rattle.graft_steps.specs.declared.log.GraftEntry.{GraftEntry}
use Rattle.graft_steps.specs.declared.log.GraftStage.{GraftStage}
use Rattle.graft_steps.specs.declared.log.GraftStage.TheVariants.{Waiting, Issued, Ended}
use Rattle.graft_steps.specs.declared.refusal.Outcome.TheVariants.{Refused}
use Rattle.graft_steps.specs.declared.refusal.Refusal.TheVariants.{NoTarget}
use Rattle.graft_model.specs.Setups.{Setup, ScriptStep, SayStep, MoveStep, EvacuateStep, SettleStep, ScriptGraft, grafts_in}
use Rattle.graft_model.specs.Parts.{To, OperatorPart}
use Rattle.graft_model.specs.Placements.{target_by}
use Rattle.operator_state.specs.declared.grafts.Slot.{Slot}
use Rattle.operator_state.specs.declared.grafts.Slot.TheVariants.{Unmade, Stays, Made}
use Rattle.operator_state.specs.Grafts.{is_waiting, outcome_at, graft_stage, log_entry, staying_entry, given_entries, log_entries, log_of}
use Rattle.operator_state.specs.Slots.{source_at, given_of, entries_in_slot}
use Rattle.operator_state.specs.States.{State, part_of_state}
use Rattle.operator_state.specs.Keeps.{emptied_by, IsMade, IsStaying, IsSlotOf, OperatorInvariant}
use Rattle.operator_state.proofs.SlotLaws.{own_source, own_outcome, own_given}

-- two lists whose items at each index give the same give the same
flat_alike : {A B C : Type 0} (f : A → List C) (h : B → List C) (xs : List A) (ys : List B) → length xs ≡ length ys
    → ((i : ℕ) (x : A) (y : B) → slice_get xs i ≡ Some x → slice_get ys i ≡ Some y → f x ≡ h y)
    → flat_map f xs ≡ flat_map h ys
flat_alike f h [] [] all each = refl
flat_alike f h [] (y ∷ ys) all each = absurd (omega arith)
flat_alike f h (x ∷ xs) [] all each = absurd (omega arith)
flat_alike f h (x ∷ xs) (y ∷ ys) all each =
    ap (λ (zs : List _). zs ++ flat_map f xs) (each zero x y refl refl)
    ∙ ap (λ (zs : List _). h y ++ zs) (flat_alike f h xs ys (omega arith) (λ i a b at there. each (suc i) a b at there))

-- ---- the entry of a graft that is made

stage_is : (entry : GraftEntry) → (entry.source ≡ None) ↔ (is_waiting entry.stage ≡ true) → entry.stage ≡ graft_stage (source_at entry) (outcome_at entry.stage)
stage_is entry source = by_stage entry.stage entry.source refl refl
  where
    by_stage : (stage : GraftStage) (o : Option RouterId) → entry.stage ≡ stage → entry.source ≡ o
        → entry.stage ≡ graft_stage (source_at entry) (outcome_at entry.stage)
    by_stage Waiting o e f =
        let none : entry.source ≡ None = source.1 (ap is_waiting e) in
        e ∙ sym (ap (λ x. graft_stage (option_map (λ r. r.0) x) (outcome_at entry.stage)) none ∙ ap (λ x. graft_stage None (outcome_at x)) e)
    by_stage Issued None e f = absurd (let g : true ≡ is_waiting Issued = sym (source.0 f) ∙ ap is_waiting e in cc)
    by_stage Issued (Some r) e f = e
        ∙ sym (ap (λ x. graft_stage (option_map (λ q. q.0) x) (outcome_at entry.stage)) f ∙ ap (λ x. graft_stage (Some r.0) (outcome_at x)) e)
    by_stage (Ended outcome) o e f = e ∙ sym (ap (λ x. graft_stage (source_at entry) (outcome_at x)) e)

source_back : (o : Option RouterId) → o ≡ option_map (λ (r : ℕ). let id : RouterId = record { 0 = r } in id) (option_map (λ r. r.0) o)
source_back None = refl
source_back (Some r) = refl

entry_is : (setup : Setup) (part : OperatorPart) (g : ScriptGraft) (entry : GraftEntry) → IsMade setup g entry
    → part.source g.graft ≡ source_at entry → part.outcome g.graft ≡ outcome_at entry.stage
    → entry ≡ log_entry part g entry.target.0
entry_is setup part g entry made source outcome =
    let source_too : entry.source ≡ option_map (λ (r : ℕ). let id : RouterId = record { 0 = r } in id) (part.source g.graft)
    = source_back entry.source ∙ sym (ap (option_map (λ (r : ℕ). let id : RouterId = record { 0 = r } in id)) source) in
    let stage : entry.stage ≡ graft_stage (part.source g.graft) (part.outcome g.graft)
    = stage_is entry made.source ∙ sym (ap (λ x. graft_stage x (part.outcome g.graft)) source ∙ ap (λ x. graft_stage (source_at entry) x) outcome) in
    let peering : entry.peering ≡ record { 0 = g.peering } = ap (λ (p : ℕ). let id : PeeringId = record { 0 = p } in id) made.peering in
    λ j. record { graft = made.graft j; peering = peering j; source = source_too j; target = entry.target; stage = stage j }

-- ---- what the log has for a slot

module _ (setup : Setup) (part : OperatorPart) (g : ScriptGraft) where
  -- by the step, and by what a slot says of gifts
  made_entries : (o : Option ScriptStep) (entry : GraftEntry) → target_by o (To entry.target.0) ≡ Some entry.target.0
      → part.given g.graft ≡ given_of o (Some (Made entry)) → log_entries part o g ≡ log_entry part g entry.target.0 ∷ []
  made_entries None entry target given = absurd cc
  made_entries (Some (SayStep p bytes)) entry target given = absurd cc
  made_entries (Some (MoveStep p t)) entry target given = ap (λ (x : ℕ). log_entry part g x ∷ []) (same_Some t entry.target.0 target)
  made_entries (Some (EvacuateStep router)) entry target given = ap (given_entries part g) given
  made_entries (Some SettleStep) entry target given = absurd cc

  no_entries : (o : Option ScriptStep) → (emptied_by o ≡ None → ⊥) → part.given g.graft ≡ given_of o (Some Unmade) → log_entries part o g ≡ []
  no_entries None some given = refl
  no_entries (Some (SayStep p bytes)) some given = refl
  no_entries (Some (MoveStep p t)) some given = absurd (some refl)
  no_entries (Some (EvacuateStep router)) some given = ap (given_entries part g) given
  no_entries (Some SettleStep) some given = refl

  staying_entries : (o : Option ScriptStep) (k : ℕ) (p : PeeringId) (router : RouterId) → emptied_by o ≡ Some router.0
      → part.given g.graft ≡ given_of o (Some (Stays k p router)) → log_entries part o g ≡ staying_entry g router.0 ∷ []
  staying_entries None k p router emptied given = absurd cc
  staying_entries (Some (SayStep q bytes)) k p router emptied given = absurd cc
  staying_entries (Some (MoveStep q t)) k p router emptied given = absurd cc
  staying_entries (Some (EvacuateStep r)) k p router emptied given = ap (given_entries part g) given
  staying_entries (Some SettleStep) k p router emptied given = absurd cc

staying_is : (setup : Setup) (g : ScriptGraft) (k : ℕ) (p : PeeringId) (router : RouterId) → IsStaying setup g k p router
    → entries_in_slot (Stays k p router) ≡ staying_entry g router.0 ∷ []
staying_is setup g k p router stays =
    let peering : p ≡ record { 0 = g.peering } = ap (λ (q : ℕ). let id : PeeringId = record { 0 = q } in id) stays.peering_is in
    λ j. record { graft = stays.graft j; peering = peering j; source = Some router; target = router; stage = Ended (Refused NoTarget) } ∷ []

module _ (s : State) (keeps : OperatorInvariant s) where
  slot_entries : (i : ℕ) (g : ScriptGraft) (slot : Slot) → slice_get (grafts_in s.setup) i ≡ Some g → slice_get s.slots i ≡ Some slot → IsSlotOf s.setup g slot
      → entries_in_slot slot ≡ log_entries (part_of_state s) (slice_get s.setup.steps g.step) g
  slot_entries i g Unmade at there fits =
      sym (no_entries s.setup (part_of_state s) g (slice_get s.setup.steps g.step) (fits.unmade refl) (own_given s.setup s.slots i g at Unmade there))
  slot_entries i g (Stays k p router) at there fits =
      let stays : IsStaying s.setup g k p router = fits.stays k p router refl in
      staying_is s.setup g k p router stays
      ∙ sym (staying_entries s.setup (part_of_state s) g (slice_get s.setup.steps g.step) k p router stays.emptied
      (own_given s.setup s.slots i g at (Stays k p router) there))
  slot_entries i g (Made entry) at there fits =
      let made : IsMade s.setup g entry = fits.made entry refl in
      ap (λ (x : GraftEntry). x ∷ []) (entry_is s.setup (part_of_state s) g entry made
      (own_source s.setup s.slots i g at entry there) (own_outcome s.setup s.slots i g at entry there))
      ∙ sym (made_entries s.setup (part_of_state s) g (slice_get s.setup.steps g.step) entry made.target (own_given s.setup s.slots i g at (Made entry) there))

  pub log_is : flat_map entries_in_slot s.slots ≡ log_of s.setup (part_of_state s)
  log_is = flat_alike entries_in_slot (λ g. log_entries (part_of_state s) (slice_get s.setup.steps g.step) g) s.slots (grafts_in s.setup) keeps.slots.all
      (λ i slot g there at. slot_entries i g slot at there (keeps.slots.each i g slot at there).fits)
