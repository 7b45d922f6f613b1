-- While the group of an evacuate step is at work, each session is where it was as the group began, or where the step gave it.
use Rattle.std.proofs.Common.{◌≡◌, ℕ, ◌+◌, ◌<◌, Option, Some, refl, sym, ap, ◌∙◌, subst, ◌⊎◌, inl, inr}
use Rattle.std.proofs.lemmas.Option.{same_Some}
use Rattle.std.specs.Prelude.{slice_get}
use Rattle.session_value.specs.Sessions.{SessionValue}
use Rattle.graft_model.specs.Setups.{Setup, ScriptStep, EvacuateStep, ScriptGraft, IsSetup, peerings_in, group_of, graft_at}
use Rattle.graft_model.specs.Parts.{Gift, Unmade, To, Stays, OperatorPart, World}
use Rattle.graft_model.specs.Placements.{target_given, target_by, target_in, placement}
use Rattle.graft_model.specs.Evacuations.{gift_to, with_gifts}
use Rattle.graft_model.specs.First.{first_operator}
use Rattle.graft_model.specs.declared.event.OperatorEvent.{OperatorEvent}
use Rattle.graft_model.specs.declared.event.OperatorEvent.TheVariants.{Order, Note, Go}
use Rattle.graft_model.specs.Steps.{ByOperator, OperatorStep}
use Rattle.graft_laws.specs.Phases.{Stage, Cleared, Phase, Idle, Busy, source_of}
use Rattle.graft_laws.specs.Owned.{Stands, Owned}
use Rattle.graft_laws.specs.Life.{GraftMove, NotesSuccess, Change, Grafts}
use Rattle.graft_laws.specs.Keeps.{Reached}
use Rattle.graft_laws.specs.Emptied.{EmptyAlone}
use Rattle.graft_laws.proofs.Moves.{operator_moves}
use Rattle.graft_laws.proofs.Logs.{placement_same}
use Rattle.graft_laws.proofs.Following.{Followed}
use Rattle.graft_laws.proofs.FarDeeds.{begun_log}
use Rattle.graft_laws.proofs.Runs.{followed, always_owned}
use Rattle.graft_laws.proofs.GroupGifts.{always_operator, go_gives, first_gives}

-- ---- what a graft of an evacuate step is given

pub given_to : (setup : Setup) (operator : OperatorPart) (g : ScriptGraft) (e t : ℕ) → slice_get setup.steps g.step ≡ Some (EvacuateStep e)
    → target_in setup operator g ≡ Some t → operator.given g.graft ≡ To t
given_to setup operator g e t there aims =
    by_gift (operator.given g.graft) refl (sym (ap (λ (s : Option ScriptStep). target_by s (operator.given g.graft)) there) ∙ aims)
  where
    by_gift : (gift : Gift) → operator.given g.graft ≡ gift → target_given gift ≡ Some t → operator.given g.graft ≡ To t
    by_gift Unmade is e = absurd cc
    by_gift (To target) is e = is ∙ ap To (same_Some target t e)
    by_gift (Stays router) is e = absurd cc

pub target_of_gift : (setup : Setup) (operator : OperatorPart) (g : ScriptGraft) (e t : ℕ) → slice_get setup.steps g.step ≡ Some (EvacuateStep e)
    → operator.given g.graft ≡ To t → target_in setup operator g ≡ Some t
target_of_gift setup operator g e t there given = ap (λ (s : Option ScriptStep). target_by s (operator.given g.graft)) there ∙ ap target_given given

-- ---- where sessions belong meanwhile

-- A step n that empties the router e has given each peering what the plan has for it, by where
-- sessions belonged as the group began. Each belongs there still, or where it was given.
pub record FollowsPlan (setup : Setup) (operator : OperatorPart) (n e : ℕ) : Type 0 where
  pub placed : ℕ → ℕ
  pub given : (g : ScriptGraft) → graft_at setup g.graft ≡ Some g → g.step ≡ n → operator.given g.graft ≡ gift_to setup placed e g.peering
  pub belongs : (p : ℕ) → p < peerings_in setup → (placement setup operator p ≡ placed p) ⊎ (gift_to setup placed e p ≡ To (placement setup operator p))

abbrev pub FollowPlans : Setup → OperatorPart → Type 0
FollowPlans setup operator = (n e : ℕ) → slice_get setup.steps n ≡ Some (EvacuateStep e) → group_of setup n ≡ operator.group → FollowsPlan setup operator n e

-- A graft that is under way while a step that empties a router is at work is the step's, and goes where that has given the session.
pub goes_by_plan : (setup : Setup) (w : World) (p q k t n e : ℕ) (stage : Stage) (s : SessionValue) → EmptyAlone setup
    → slice_get setup.steps n ≡ Some (EvacuateStep e) → group_of setup n ≡ w.operator.group
    → (plan : FollowsPlan setup w.operator n e) → Stands setup w p (Busy q k t stage) s → gift_to setup plan.placed e p ≡ To t
goes_by_plan setup w p q k t n e stage s alone there group plan b =
    let on = b.log.goes_on in
    let g : ScriptGraft = record { graft = k; peering = p; step = on.step } in
    let same : on.step ≡ n = alone n e g there on.known (on.begun ∙ sym group) in
    sym (plan.given g on.known same) ∙ given_to setup w.operator g e t (ap (slice_get setup.steps) same ∙ there) on.aims

-- A peering's session comes to belong elsewhere only by a graft that succeeds.
record HasCleared (phase next : Phase) : Type 0 where
  source : ℕ
  graft : ℕ
  target : ℕ
  was : phase ≡ Busy source graft target Cleared
  is : next ≡ Idle target

move_stays : {setup : Setup} {w : World} {phase next : Phase} {s : SessionValue} → GraftMove setup w phase s next
    → (source_of next ≡ source_of phase) ⊎ HasCleared phase next
move_stays (NotesSuccess {q = q} {k = k} {t = t}) = inr (record { source = q; graft = k; target = t; was = refl; is = refl })
move_stays _ = inl refl

source_stays : {setup : Setup} {w v : World} {p : ℕ} {phase next : Phase} {s t : SessionValue} → Change setup w v p phase s next t
    → (source_of next ≡ source_of phase) ⊎ HasCleared phase next
source_stays (Grafts move line entries) = move_stays move
source_stays _ = inl refl

-- ---- along a run

module _ (setup : Setup) (ok : IsSetup setup) (alone : EmptyAlone setup) where
  -- an event of the operator that begins no group
  module _ (event : OperatorEvent) (before after : World) (reached : Reached setup before) (x : OperatorStep setup event before after)
      (group : x.part.group ≡ before.operator.group) (given : x.part.given ≡ before.operator.given) where
    owned : Owned setup before
    owned = always_owned setup ok before reached

    part : after.operator ≡ x.part
    part = (operator_moves setup event before after x).operator

    belongs_then : (n e : ℕ) → slice_get setup.steps n ≡ Some (EvacuateStep e) → group_of setup n ≡ before.operator.group
        → (plan : FollowsPlan setup before.operator n e) → (p : ℕ) → p < peerings_in setup
        → (placement setup after.operator p ≡ plan.placed p) ⊎ (gift_to setup plan.placed e p ≡ To (placement setup after.operator p))
    belongs_then n e there at_work plan p l = by_source (source_stays f.change) where
      f : Followed setup before after p (owned.peerings p l).phase (owned.peerings p l).session
      f = followed setup before after (ByOperator event) p (owned.peerings p l).phase (owned.peerings p l).session ok owned x l (owned.peerings p l).stands

      by_source : (source_of f.next ≡ source_of (owned.peerings p l).phase) ⊎ HasCleared (owned.peerings p l).phase f.next
          → (placement setup after.operator p ≡ plan.placed p) ⊎ (gift_to setup plan.placed e p ≡ To (placement setup after.operator p))
      by_source (inl same) =
          subst (λ (r : ℕ). (r ≡ plan.placed p) ⊎ (gift_to setup plan.placed e p ≡ To r))
          (sym (f.stands.log.placed ∙ (same ∙ sym (owned.peerings p l).stands.log.placed))) (plan.belongs p l)
      by_source (inr cleared) =
          let b : Stands setup before p (Busy cleared.source cleared.graft cleared.target Cleared) (owned.peerings p l).session =
          subst (λ (phase : Phase). Stands setup before p phase (owned.peerings p l).session) cleared.was (owned.peerings p l).stands in
          inr (goes_by_plan setup before p cleared.source cleared.graft cleared.target n e Cleared (owned.peerings p l).session alone there at_work plan b
          ∙ ap To (sym (f.stands.log.placed ∙ ap source_of cleared.is)))

    plans_still : FollowPlans setup before.operator → FollowPlans setup after.operator
    plans_still plans n e there at_work =
        let was_at_work : group_of setup n ≡ before.operator.group = at_work ∙ (ap (λ (o : OperatorPart). o.group) part ∙ group) in
        let plan : FollowsPlan setup before.operator n e = plans n e there was_at_work in
        record {
          placed = plan.placed;
          given = λ g known by. ap (λ (o : OperatorPart). o.given g.graft) part ∙ (ap (λ (h : ℕ → Gift). h g.graft) given ∙ plan.given g known by);
          belongs = belongs_then n e there was_at_work plan;
        }

  -- as a group begins, each session belongs where it did
  plans_begin : (before after : World) → Reached setup before → OperatorStep setup Go before after → FollowPlans setup after.operator
  plans_begin before after reached x n e there at_work = record {
    placed = placement setup before.operator;
    given = (go_gives setup before after n e reached x there at_work).given;
    belongs = λ p l. inl (
        let held = (always_owned setup ok before reached).peerings p l in
        ap (λ (o : OperatorPart). placement setup o p) ((operator_moves setup Go before after x).operator ∙ x.row.effect)
        ∙ placement_same setup p before.operator (with_gifts setup (record before.operator { group = before.operator.group + 1 }))
        (begun_log setup p before.operator) held.phase held.stands.log);
  }

  plans_keep : (event : OperatorEvent) (before after : World) → Reached setup before → OperatorStep setup event before after
      → FollowPlans setup before.operator → FollowPlans setup after.operator
  plans_keep (Order n number) before after reached x plans = elim x.row [
    | inl row ↦ plans_still (Order n number) before after reached x
        (ap (λ (o : OperatorPart). o.group) row.effect) (ap (λ (o : OperatorPart). o.given) row.effect) plans
    | inr row ↦ plans_still (Order n number) before after reached x
        (ap (λ (o : OperatorPart). o.group) row.effect) (ap (λ (o : OperatorPart). o.given) row.effect) plans
  ]
  plans_keep (Note r) before after reached x plans = plans_still (Note r) before after reached x
      (ap (λ (o : OperatorPart). o.group) x.row.effect) (ap (λ (o : OperatorPart). o.given) x.row.effect) plans
  plans_keep Go before after reached x plans = plans_begin before after reached x

  pub always_by_plan : (w : World) → Reached setup w → FollowPlans setup w.operator
  always_by_plan = always_operator setup (FollowPlans setup)
      (λ n e there at_work.
      record { placed = placement setup (first_operator setup); given = (first_gives setup n e there at_work).given; belongs = λ p l. inl refl })
      plans_keep
