-- What becomes of the sessions of a router that is emptied.
use Rattle.std.proofs.Common.{◌≡◌, ◌≢◌, ℕ, ◌<◌, ◌≤◌, List, ◌∷◌, ◌++◌, Option, Some, None, refl, sym, ap, ◌∙◌, subst, arith, ◌⊎◌, inl, inr, false}
use Rattle.std.proofs.lemmas.Bool.{cases_eq}
use Rattle.std.specs.List.{AllByRecursion}
use Rattle.graft_steps.specs.declared.refusal.Outcome.{Outcome}
use Rattle.graft_steps.specs.declared.refusal.Outcome.TheVariants.{Accepted}
use Rattle.graft_model.specs.Setups.{Setup, ScriptGraft, IsSetup, group_of, graft_at}
use Rattle.graft_model.specs.Parts.{OperatorPart, World}
use Rattle.graft_model.specs.Placements.{is_accepted, target_in, placement}
use Rattle.graft_model.specs.Quiet.{Quiet}
use Rattle.graft_model.specs.Steps.{Event}
use Rattle.graft_laws.specs.Keeps.{Reached}
use Rattle.graft_laws.specs.Emptied.{GiveByPlan, EmptyAlone, IsLastAccepted, AreEmptied}
use Rattle.graft_laws.proofs.Lists.{all_both, all_back}
use Rattle.graft_laws.proofs.Numbers.{IsGraftOf, all_of_peering, StandsAmong, among, behind_above}
use Rattle.graft_laws.proofs.Placements.{accepts, placed_last}
use Rattle.graft_laws.proofs.GroupGifts.{go_gives, first_gives, over_ended}
use Rattle.graft_laws.proofs.ByPlan.{target_of_gift}
use Rattle.graft_laws.proofs.HadRoom.{none_full}

pub gives_by_plan : (setup : Setup) (events : List Event) → GiveByPlan setup events
gives_by_plan setup events = record {
  first = λ step router there group. first_gives setup step router there group;
  later = λ begun rest before after step router is run x there group.
      go_gives setup before after step router (record { events = begun; run = run }) x there group;
}

-- where no later graft of the peering was accepted, the session belongs at the graft's target
placed_there : (setup : Setup) (operator : OperatorPart) (g : ScriptGraft) (t : ℕ) → graft_at setup g.graft ≡ Some g
    → target_in setup operator g ≡ Some t → operator.outcome g.graft ≡ Some Accepted → IsLastAccepted setup operator g
    → placement setup operator g.peering ≡ t
placed_there setup operator g t known aims accepted last =
    let p : ℕ = g.peering in
    let a : StandsAmong setup p g = among setup p g (known, refl) in
    let own : AllByRecursion (IsGraftOf setup p) (a.front ++ g ∷ a.back) =
    subst (λ (x : List ScriptGraft). AllByRecursion (IsGraftOf setup p) x) a.is (all_of_peering setup p) in
    let own_back : AllByRecursion (IsGraftOf setup p) (g ∷ a.back) = all_back (IsGraftOf setup p) a.front (g ∷ a.back) own in
    let none : AllByRecursion (λ (x : ScriptGraft). accepts operator x ≡ false) a.back =
    all_both (IsGraftOf setup p) (λ (x : ScriptGraft). g.graft < x.graft)
    (λ (x : ScriptGraft). accepts operator x ≡ false) a.back (λ x mine above. last x mine.0 mine.1 above) own_back.1
    (behind_above setup p a.front a.back g a.is) in
    placed_last setup operator p t a.front a.back g a.is (ap is_accepted accepted) none aims

-- a graft that an evacuate step made has its outcome, once nothing is left to do
has_outcome : (setup : Setup) (w : World) (g : ScriptGraft) (t : ℕ) → Reached setup w → Quiet setup w → graft_at setup g.graft ≡ Some g
    → group_of setup g.step ≤ w.operator.group → target_in setup w.operator g ≡ Some t
    → (outcome : Outcome) × (w.operator.outcome g.graft ≡ Some outcome)
has_outcome setup w g t reached quiet known begun aims = by_value (w.operator.outcome g.graft) refl where
  made : target_in setup w.operator g ≢ None
  made none = let e : Some t ≡ None = sym aims ∙ none in absurd cc

  ended : (group_of setup g.step ≡ w.operator.group) ⊎ (group_of setup g.step ≢ w.operator.group) → w.operator.outcome g.graft ≢ None
  ended (inl at_work) = quiet.ended g known at_work made
  ended (inr other) = over_ended setup w reached g known (omega arith) made

  by_value : (o : Option Outcome) → w.operator.outcome g.graft ≡ o → (outcome : Outcome) × (w.operator.outcome g.graft ≡ Some outcome)
  by_value (Some outcome) is = (outcome, is)
  by_value None is = absurd (ended (cases_eq (group_of setup g.step) w.operator.group) is)

pub are_emptied : (setup : Setup) (w : World) → IsSetup setup → EmptyAlone setup → Reached setup w → Quiet setup w → AreEmptied setup w.operator
are_emptied setup w ok alone reached quiet g router target known there begun given =
    let aims : target_in setup w.operator g ≡ Some target = target_of_gift setup w.operator g router target there given in
    let out = has_outcome setup w g target reached quiet known begun aims in
    record {
      outcome = out.0;
      ended = out.1;
      had_room = λ room full. none_full setup ok alone w reached g router room known there (out.1 ∙ ap Some full);
      placed = λ accepted last. placed_there setup w.operator g target known aims (out.1 ∙ ap Some accepted) last;
    }
