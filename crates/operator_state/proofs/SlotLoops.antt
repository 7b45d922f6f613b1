-- The slots of a script, step by step.
use Rattle.std.proofs.Common.{◌≡◌, ℕ, zero, suc, ◌+◌, ◌*◌, ◌<◌, ◌≤◌, List, [], ◌∷◌, ◌++◌, length, get_or, drop, refl, sym, ap}
use Rattle.std.proofs.Common.{◌∙◌, arith, append_assoc, length-append, append-nil, drop-cons, ◌⊎◌, inl, inr}
use Rattle.graft_edge.specs.declared.ids.PeeringId.{PeeringId}
use Rattle.graft_edge.specs.declared.ids.RouterId.{RouterId}
use Rattle.graft_steps.specs.declared.log.GraftEntry.{GraftEntry}
use Rattle.operator_state.specs.declared.grafts.Slot.{Slot}
use Rattle.operator_state.specs.declared.grafts.Slot.TheVariants.{Made}
use Rattle.actor_configs.specs.declared.script.ScriptStep.{ScriptStep}
use Rattle.actor_configs.specs.declared.script.ScriptStep.TheVariants.{Say, Graft, Evacuate, Settle}
use Rattle.operator_state.specs.Slots.{waiting_entry, unmade_slots, first_slots}

pub length-unmade_slots : (count : ℕ) → length (unmade_slots count) ≡ count
length-unmade_slots zero = refl
length-unmade_slots (suc count) = ap suc (length-unmade_slots count)

-- the slots so far, with those of the steps from this index on, are those of all steps
pub record AreSlotsTo (peerings : ℕ) (steps : List ScriptStep) (index : ℕ) (slots : List Slot) : Type 0 where
  pub rest : slots ++ first_slots peerings (length slots) (drop index steps) ≡ first_slots peerings 0 steps
  pub few : length slots ≤ 256 * index

module _ (peerings : ℕ) (steps : List ScriptStep) (index : ℕ) (slots : List Slot) (few : peerings ≤ 256)
    (within : index < length steps) (none : ScriptStep) (so_far : AreSlotsTo peerings steps index slots) where
  -- the slots of the step at this index are added
  more : (step : ScriptStep) (added new : List Slot) → get_or steps index none ≡ step → new ≡ slots ++ added → length added ≤ 256
      → ((others : List ScriptStep) → first_slots peerings (length slots) (step ∷ others) ≡ added ++ first_slots peerings (length slots + length added) others)
      → AreSlotsTo peerings steps (index + 1) new
  more step added new is new_is small own = record { rest = rest; few = let before = so_far.few in omega (arith, before, small, longer) } where
    others : List ScriptStep
    others = drop (index + 1) steps

    longer : length new ≡ length slots + length added
    longer = ap (λ (xs : List Slot). length xs) new_is ∙ length-append slots added

    from_here : drop index steps ≡ step ∷ others
    from_here = drop-cons steps index none within ∙ ap (λ (x : ScriptStep). x ∷ drop (suc index) steps) is
        ∙ ap (λ (n : ℕ). step ∷ drop n steps) (let e : suc index ≡ index + 1 = omega arith in e)

    rest : new ++ first_slots peerings (length new) others ≡ first_slots peerings 0 steps
    rest =
        ap (λ (n : ℕ). new ++ first_slots peerings n others) longer
        ∙ ap (λ (xs : List Slot). xs ++ first_slots peerings (length slots + length added) others) new_is
        ∙ append_assoc slots added (first_slots peerings (length slots + length added) others)
        ∙ ap (λ (xs : List Slot). slots ++ xs) (sym (own others))
        ∙ ap (λ (xs : List ScriptStep). slots ++ first_slots peerings (length slots) xs) (sym from_here)
        ∙ so_far.rest

  pub more_graft : (peering : PeeringId) (target : RouterId) (entry : GraftEntry) (new : List Slot) → get_or steps index none ≡ Graft peering target
      → entry ≡ waiting_entry (length slots + 1) (record { peering = peering; target = target }) → new ≡ slots ++ Made entry ∷ []
      → AreSlotsTo peerings steps (index + 1) new
  more_graft peering target entry new is entry_is new_is =
      more (Graft peering target) (Made entry ∷ []) new is new_is (omega arith)
      (λ others. ap (λ (x : GraftEntry). Made x ∷ first_slots peerings (length slots + 1) others) (sym entry_is))

  pub more_unmade : (router : RouterId) (new : List Slot) → get_or steps index none ≡ Evacuate router → new ≡ slots ++ unmade_slots peerings
      → AreSlotsTo peerings steps (index + 1) new
  more_unmade router new is new_is =
      let all = length-unmade_slots peerings in
      more (Evacuate router) (unmade_slots peerings) new is new_is (omega (arith, few, all))
      (λ others. ap (λ (n : ℕ). unmade_slots peerings ++ first_slots peerings (length slots + n) others) (sym all))

  pub no_more : (new : List Slot) → ((peering : PeeringId) × (get_or steps index none ≡ Say peering)) ⊎ (get_or steps index none ≡ Settle)
      → new ≡ slots → AreSlotsTo peerings steps (index + 1) new
  no_more new (inl (peering, is)) new_is = more (Say peering) [] new is (new_is ∙ sym (append-nil slots)) (omega arith)
      (λ others. ap (λ (n : ℕ). first_slots peerings n others) (let e : length slots ≡ length slots + 0 = omega arith in e))
  no_more new (inr is) new_is = more Settle [] new is (new_is ∙ sym (append-nil slots)) (omega arith)
      (λ others. ap (λ (n : ℕ). first_slots peerings n others) (let e : length slots ≡ length slots + 0 = omega arith in e))
