-- What steps that empty routers give follows from what became of the grafts of earlier groups.
use Rattle.std.proofs.Common.{◌≡◌, ◌≢◌, ℕ, zero, suc, ◌+◌, ◌<◌, ◌≤◌, Bool, true, false, cond, ltb, List, ◌++◌}
use Rattle.std.proofs.Common.{Option, Some, None, refl, sym, ap, ◌∙◌, subst, arith, ◌⊎◌, inl, inr}
use Rattle.std.proofs.Math.Path.{fun_ext}
use Rattle.std.specs.Prelude.{slice_get, IsSome}
use Rattle.std.specs.List.{AllByRecursion}
use Rattle.std.proofs.lemmas.Bool.{cases_eq, false≢true}
use Rattle.std.proofs.lemmas.Bool.Decides.{nat_tests}
use Rattle.graft_steps.specs.declared.refusal.Outcome.{Outcome}
use Rattle.graft_model.specs.Points.{at}
use Rattle.graft_model.specs.Setups.{Setup, ScriptStep, SayStep, MoveStep, EvacuateStep, SettleStep, ScriptGraft}
use Rattle.graft_model.specs.Setups.{IsSetup, group_of, groups_in, moved_by, is_settle, graft_at}
use Rattle.graft_model.specs.Parts.{Gift, OperatorPart, World}
use Rattle.graft_model.specs.Placements.{is_accepted, target_by, target_in, placement}
use Rattle.graft_model.specs.Evacuations.{gift_to, with_gifts}
use Rattle.graft_model.specs.First.{first_operator}
use Rattle.graft_model.specs.declared.event.OperatorEvent.{OperatorEvent}
use Rattle.graft_model.specs.declared.event.OperatorEvent.TheVariants.{Order, Note, Go}
use Rattle.graft_model.specs.Steps.{OperatorStep}
use Rattle.graft_model.proofs.Gifts.{given_stays}
use Rattle.graft_model.proofs.Numbers.{step_of_graft}
use Rattle.graft_laws.specs.Keeps.{Reached}
use Rattle.graft_laws.specs.Owned.{Owned}
use Rattle.graft_laws.specs.Log.{LogSays, HasEnded, IsBehind, AwaitsOrder, GoesOnIn, grafts_of, is_peering}
use Rattle.graft_laws.specs.Phases.{Phase, Idle, Busy}
use Rattle.graft_laws.proofs.GroupGifts.{always_operator, go_gives, first_gives}
use Rattle.graft_laws.proofs.Lists.{all_map, all_join}
use Rattle.graft_laws.proofs.Moves.{operator_moves}
use Rattle.graft_laws.proofs.Numbers.{IsGraftOf, all_of_peering, of_all}
use Rattle.graft_laws.proofs.OneGraft.{known_graft}
use Rattle.graft_laws.proofs.Placements.{CountsAlike, placed_alike, placed_first}
use Rattle.graft_laws.proofs.Runs.{always_owned}
use Rattle.one_answer.specs.Settled.{IsSettled, HaveOneLog}
use Rattle.one_answer.proofs.Unsaid.{in_ended}

-- ---- a log up to a group

abbrev is_before : Setup → ℕ → Option ScriptGraft → Bool
is_before setup n None = false
is_before setup n (Some g) = ltb (group_of setup g.step) n

-- the operator's log, without what became of the grafts of group n and of later ones
abbrev up_to : Setup → ℕ → OperatorPart → OperatorPart
up_to setup n operator = record operator { outcome = λ k. cond (is_before setup n (graft_at setup k)) (operator.outcome k) None }

outcome_at : (setup : Setup) (n : ℕ) (operator : OperatorPart) (g : ScriptGraft) (b : Bool) → graft_at setup g.graft ≡ Some g
    → ltb (group_of setup g.step) n ≡ b
    → (up_to setup n operator).outcome g.graft ≡ cond b (operator.outcome g.graft) None
outcome_at setup n operator g b known is =
    ap (λ (o : Option ScriptGraft). cond (is_before setup n o) (operator.outcome g.graft) None) known
    ∙ ap (λ (x : Bool). cond x (operator.outcome g.graft) None) is

below : (a n : ℕ) → ltb a n ≡ true → a < n
below a n e = grind (arith, nat_tests)

not_below : (a n : ℕ) → ltb a n ≡ false → n ≤ a
not_below a n e = grind (arith, nat_tests)

-- Where two logs have the same outcomes and targets of the grafts of the groups before n, sessions belong at the same places by what became of these.
module _ (setup : Setup) (n : ℕ) (before after : OperatorPart)
    (outcomes : (g : ScriptGraft) → graft_at setup g.graft ≡ Some g → group_of setup g.step < n → after.outcome g.graft ≡ before.outcome g.graft)
    (targets : (g : ScriptGraft) → graft_at setup g.graft ≡ Some g → group_of setup g.step < n → target_in setup after g ≡ target_in setup before g) where
  alike : (g : ScriptGraft) → graft_at setup g.graft ≡ Some g → CountsAlike setup (up_to setup n before) (up_to setup n after) g
  alike g known = by_test (ltb (group_of setup g.step) n) refl where
    by_test : (b : Bool) → ltb (group_of setup g.step) n ≡ b → CountsAlike setup (up_to setup n before) (up_to setup n after) g
    by_test true is = record {
      accepted = ap is_accepted (outcome_at setup n after g true known is ∙ outcomes g known (below _ _ is) ∙ sym (outcome_at setup n before g true known is));
      target = λ _. targets g known (below _ _ is);
    }
    by_test false is = record {
      accepted = ap is_accepted (outcome_at setup n after g false known is ∙ sym (outcome_at setup n before g false known is));
      target = λ e. absurd (false≢true (sym (ap is_accepted (outcome_at setup n before g false known is)) ∙ e));
    }

  same_places : placement setup (up_to setup n after) ≡ placement setup (up_to setup n before)
  same_places = fun_ext (λ p. placed_alike setup (up_to setup n before) (up_to setup n after) p
      (all_map (IsGraftOf setup p) (CountsAlike setup (up_to setup n before) (up_to setup n after))
      (grafts_of setup p) (λ g own. alike g own.0) (all_of_peering setup p)))

-- ---- the groups of grafts that were ordered

module _ (setup : Setup) (ok : IsSetup setup) (w : World) (reached : Reached setup w) where
  owned : Owned setup w
  owned = always_owned setup ok w reached

  -- what the log says of all grafts of a peering it says of each
  module _ (P : ScriptGraft → Type 0) (behind : (g : ScriptGraft) → IsBehind setup w.operator g → P g)
      (waits : (g : ScriptGraft) → AwaitsOrder w.operator g → P g)
      (now : (g : ScriptGraft) → group_of setup g.step ≡ w.operator.group → P g) where
    at_work : (p : ℕ) (phase : Phase) (gs : List ScriptGraft) → GoesOnIn setup w.operator p phase gs → AllByRecursion P gs
    at_work p (Idle q) gs on = subst (λ (xs : List ScriptGraft). AllByRecursion P xs) (sym on) tt
    at_work p (Busy q k t stage) gs on = subst (λ (xs : List ScriptGraft). AllByRecursion P xs) (sym on.is) (now _ on.begun, tt)

    by_log : (p : ℕ) (phase : Phase) → LogSays setup w.operator p phase → AllByRecursion P (grafts_of setup p)
    by_log p phase log = subst (λ (xs : List ScriptGraft). AllByRecursion P xs) (sym log.grafts)
        (all_join P log.past (log.now ++ log.later) (all_map (IsBehind setup w.operator) P log.past behind log.are_behind)
        (all_join P log.now log.later (at_work p phase log.now log.goes_on) (all_map (AwaitsOrder w.operator) P log.later waits log.wait)))

    each : (g : ScriptGraft) → graft_at setup g.graft ≡ Some g → P g
    each g known =
        let some = known_graft setup g.graft ok (subst (λ (o : Option ScriptGraft). IsSome o) (sym known) refl) in
        let own : g.peering ≡ some.0 = owner some.0 (sym (ap (is_peering some.0) known) ∙ some.2) in
        of_all setup some.0 g P (known, own) (by_log some.0 _ (owned.peerings some.0 some.1).stands.log)
      where
        owner : (p : ℕ) → is_peering p (Some g) ≡ true → g.peering ≡ p
        owner p e = grind (arith, nat_tests)

  -- a graft that was ordered and hasn't ended is of the group at work
  under_way : (g : ScriptGraft) → graft_at setup g.graft ≡ Some g → w.operator.source g.graft ≢ None → w.operator.outcome g.graft ≡ None
      → group_of setup g.step ≡ w.operator.group
  under_way = each (λ g. w.operator.source g.graft ≢ None → w.operator.outcome g.graft ≡ None → group_of setup g.step ≡ w.operator.group)
      (λ g b ordered unended. absurd (over g b.over ordered unended)) (λ g b ordered unended. absurd (ordered b.unordered)) (λ g e ordered unended. e)
    where
      over : (g : ScriptGraft) → HasEnded w.operator g ⊎ (AwaitsOrder w.operator g × (target_in setup w.operator g ≡ None))
          → w.operator.source g.graft ≢ None → w.operator.outcome g.graft ≡ None → ⊥
      over g (inl h) ordered unended = h.ended unended
      over g (inr h) ordered unended = ordered h.0.unordered

  -- a graft that has ended is of a group that has begun
  ended_begun : (g : ScriptGraft) → graft_at setup g.graft ≡ Some g → w.operator.outcome g.graft ≢ None → group_of setup g.step ≤ w.operator.group
  ended_begun = each (λ g. w.operator.outcome g.graft ≢ None → group_of setup g.step ≤ w.operator.group)
      (λ g b ended. b.begun) (λ g b ended. absurd (ended b.unended)) (λ g e ended. omega (arith, e))

-- ---- gifts follow

-- Each graft of a step that empties a router, of a group that has begun, was given by
-- plan, by where sessions belong by what became of the grafts of earlier groups.
abbrev Follow : Setup → OperatorPart → Type 0
Follow setup operator = (g : ScriptGraft) (router : ℕ) → graft_at setup g.graft ≡ Some g → group_of setup g.step ≤ operator.group
    → slice_get setup.steps g.step ≡ Some (EvacuateStep router)
    → operator.given g.graft ≡ gift_to setup (placement setup (up_to setup (group_of setup g.step) operator)) router g.peering

module _ (setup : Setup) (before after : OperatorPart) (group : after.group ≡ before.group) (given : after.given ≡ before.given)
    (outcomes : (g : ScriptGraft) → graft_at setup g.graft ≡ Some g
    → group_of setup g.step < before.group → after.outcome g.graft ≡ before.outcome g.graft) where
  still : Follow setup before → Follow setup after
  still was g router known begun there =
      ap (λ (f : ℕ → Gift). f g.graft) given
      ∙ was g router known (omega (arith, begun, group)) there
      ∙ sym (ap (λ (placed : ℕ → ℕ). gift_to setup placed router g.peering)
      (same_places setup (group_of setup g.step) before after (λ x k l. outcomes x k (omega (arith, l, begun, group)))
      (λ x k l. ap (λ (f : ℕ → Gift). target_by (slice_get setup.steps x.step) (f x.graft)) given)))

elsewhere : (f : ℕ → Option Outcome) (k n : ℕ) (x : Option Outcome) → k ≢ n → at f k x n ≡ f n
elsewhere f k n x ne = grind (arith, nat_tests)

module _ (setup : Setup) (ok : IsSetup setup) (before after : World) (reached : Reached setup before) where
  begins : OperatorStep setup Go before after → Follow setup before.operator
      → Follow setup (with_gifts setup (record before.operator { group = before.operator.group + 1 }))
  begins x was g router known begun there = by_group (cases_eq (group_of setup g.step) (before.operator.group + 1)) where
    next : OperatorPart
    next = with_gifts setup (record before.operator { group = before.operator.group + 1 })

    is : after.operator ≡ next
    is = (operator_moves setup Go before after x).operator ∙ x.row.effect

    stays : (y : ScriptGraft) → graft_at setup y.graft ≡ Some y → group_of setup y.step < before.operator.group + 1
        → next.given y.graft ≡ before.operator.given y.graft
    stays y k l = given_stays setup (record before.operator { group = before.operator.group + 1 }) y k
        (λ (e : group_of setup y.step ≡ before.operator.group + 1). omega (arith, e, l))

    -- no graft of a later group has ended
    counts : (y : ScriptGraft) → graft_at setup y.graft ≡ Some y → CountsAlike setup before.operator (up_to setup (before.operator.group + 1) next) y
    counts y k = by_test (ltb (group_of setup y.step) (before.operator.group + 1)) refl where
      by_test : (b : Bool) → ltb (group_of setup y.step) (before.operator.group + 1) ≡ b
          → CountsAlike setup before.operator (up_to setup (before.operator.group + 1) next) y
      by_test true e = record {
        accepted = ap is_accepted (outcome_at setup (before.operator.group + 1) next y true k e);
        target = λ _. ap (λ (gift : Gift). target_by (slice_get setup.steps y.step) gift) (stays y k (below _ _ e));
      }
      by_test false e =
          let none : before.operator.outcome y.graft ≡ None = by_value (before.operator.outcome y.graft) refl in
          record {
            accepted = ap is_accepted (outcome_at setup (before.operator.group + 1) next y false k e ∙ sym none);
            target = λ a. absurd (false≢true (sym (ap is_accepted none) ∙ a));
          }
        where
          by_value : (o : Option Outcome) → before.operator.outcome y.graft ≡ o → before.operator.outcome y.graft ≡ None
          by_value None f = f
          by_value (Some outcome) f =
              let begun_then = ended_begun setup ok before reached y k
              (λ (none : before.operator.outcome y.graft ≡ None). (let h : Some outcome ≡ None = sym f ∙ none in absurd cc)) in
              absurd (omega (arith, begun_then, not_below _ _ e))

    by_group : (group_of setup g.step ≡ before.operator.group + 1) ⊎ (group_of setup g.step ≢ before.operator.group + 1)
        → next.given g.graft ≡ gift_to setup (placement setup (up_to setup (group_of setup g.step) next)) router g.peering
    by_group (inl e) =
        ap (λ (o : OperatorPart). o.given g.graft) (sym is)
        ∙ (go_gives setup before after g.step router reached x there (e ∙ sym (ap (λ (o : OperatorPart). o.group) is))).given g known refl
        ∙ ap (λ (placed : ℕ → ℕ). gift_to setup placed router g.peering)
        (sym (fun_ext (λ p. placed_alike setup before.operator (up_to setup (before.operator.group + 1) next) p
        (all_map (IsGraftOf setup p) (CountsAlike setup before.operator (up_to setup (before.operator.group + 1) next))
        (grafts_of setup p) (λ y own. counts y own.0) (all_of_peering setup p)))))
        ∙ sym (ap (λ (n : ℕ). gift_to setup (placement setup (up_to setup n next)) router g.peering) e)
    by_group (inr ne) =
        stays g known (omega (arith, begun, ne))
        ∙ was g router known (omega (arith, begun, ne)) there
        ∙ sym (ap (λ (placed : ℕ → ℕ). gift_to setup placed router g.peering)
        (same_places setup (group_of setup g.step) before.operator next (λ y k l. refl)
        (λ y k l. ap (λ (gift : Gift). target_by (slice_get setup.steps y.step) gift) (stays y k (omega (arith, l, begun, ne))))))

module _ (setup : Setup) (ok : IsSetup setup) where
  keeps : (event : OperatorEvent) (before after : World) → Reached setup before → OperatorStep setup event before after → Follow setup before.operator
      → Follow setup after.operator
  keeps event before after reached x was = subst (Follow setup) (sym (operator_moves setup event before after x).operator) (by_event event x was) where
    by_event : (event : OperatorEvent) → (x : OperatorStep setup event before after) → Follow setup before.operator → Follow setup x.part
    by_event (Order n number) x was = elim x.row [
      | inl row ↦ still setup before.operator x.part (ap (λ (o : OperatorPart). o.group) row.effect) (ap (λ (o : OperatorPart). o.given) row.effect)
          (λ g known l. ap (λ (o : OperatorPart). o.outcome g.graft) row.effect) was
      | inr row ↦ still setup before.operator x.part (ap (λ (o : OperatorPart). o.group) row.effect) (ap (λ (o : OperatorPart). o.given) row.effect)
          (λ g known l. ap (λ (o : OperatorPart). o.outcome g.graft) row.effect) was
    ]
    by_event (Note r) x was =
        still setup before.operator x.part (ap (λ (o : OperatorPart). o.group) x.row.effect) (ap (λ (o : OperatorPart). o.given) x.row.effect)
        (λ g known l. ap (λ (o : OperatorPart). o.outcome g.graft) x.row.effect
        ∙ elsewhere before.operator.outcome x.row.report.graft g.graft (Some x.row.report.outcome) (λ e.
        (let at_work = under_way setup ok before reached g known (λ none. x.row.ordered (ap before.operator.source e ∙ none))
        (ap before.operator.outcome (sym e) ∙ x.row.unended) in
        omega (arith, at_work, l)))) was
    by_event Go x was = subst (Follow setup) (sym x.row.effect) (begins setup ok before after reached x was)

  first_follow : Follow setup (first_operator setup)
  first_follow g router known begun there =
      let first : group_of setup g.step ≡ 0 = omega (arith, begun) in
      (first_gives setup g.step router there first).given g known refl
      ∙ ap (λ (placed : ℕ → ℕ). gift_to setup placed router g.peering) (fun_ext (λ p.
      placed_first setup (first_operator setup) p (λ k. refl)
      ∙ sym (placed_first setup (up_to setup (group_of setup g.step) (first_operator setup)) p
      (λ k. none (is_before setup (group_of setup g.step) (graft_at setup k))))))
    where
      none : (b : Bool) → ◌≡◌ {A = Option Outcome} (cond b None None) None
      none true = refl
      none false = refl

  always_follow : (w : World) → Reached setup w → Follow setup w.operator
  always_follow = always_operator setup (Follow setup) first_follow keeps

  -- ---- two logs

  module _ (w v : World) (reached : Reached setup w) (other : Reached setup v) (group : v.operator.group ≡ w.operator.group)
      (begun : (g : ScriptGraft) → graft_at setup g.graft ≡ Some g → group_of setup g.step ≤ w.operator.group)
      (outcomes : (k : ℕ) → v.operator.outcome k ≡ w.operator.outcome k) where
    abbrev OneTarget : ℕ → Type 0
    OneTarget n = (g : ScriptGraft) → graft_at setup g.graft ≡ Some g → group_of setup g.step < n → target_in setup v.operator g ≡ target_in setup w.operator g

    next_target : (n : ℕ) → OneTarget n → (g : ScriptGraft) → graft_at setup g.graft ≡ Some g → group_of setup g.step ≡ n
        → target_in setup v.operator g ≡ target_in setup w.operator g
    next_target n ones g known e = by_step (slice_get setup.steps g.step) refl where
      no_matter : (step : ScriptStep) → slice_get setup.steps g.step ≡ Some step → ((a b : Gift) → target_by (Some step) a ≡ target_by (Some step) b)
          → target_in setup v.operator g ≡ target_in setup w.operator g
      no_matter step there any =
          ap (λ (s : Option ScriptStep). target_by s (v.operator.given g.graft)) there
          ∙ any (v.operator.given g.graft) (w.operator.given g.graft)
          ∙ sym (ap (λ (s : Option ScriptStep). target_by s (w.operator.given g.graft)) there)

      by_step : (o : Option ScriptStep) → slice_get setup.steps g.step ≡ o → target_in setup v.operator g ≡ target_in setup w.operator g
      by_step (Some (EvacuateStep router)) there = ap (λ (gift : Gift). target_by (slice_get setup.steps g.step) gift)
          (always_follow v other g router known (omega (arith, group, begun g known)) there
          ∙ ap (λ (placed : ℕ → ℕ). gift_to setup placed router g.peering)
          (same_places setup (group_of setup g.step) w.operator v.operator (λ x k l. outcomes x.graft) (λ x k l. ones x k (omega (arith, l, e))))
          ∙ sym (always_follow w reached g router known (begun g known) there))
      by_step (Some (MoveStep peering target)) there = no_matter (MoveStep peering target) there (λ a b. refl)
      by_step (Some (SayStep peering bytes)) there = no_matter (SayStep peering bytes) there (λ a b. refl)
      by_step (Some SettleStep) there = no_matter SettleStep there (λ a b. refl)
      by_step None there =
          ap (λ (s : Option ScriptStep). target_by s (v.operator.given g.graft)) there
          ∙ sym (ap (λ (s : Option ScriptStep). target_by s (w.operator.given g.graft)) there)

    one_target : (n : ℕ) → OneTarget n
    one_target zero g known l = absurd (omega (arith, l))
    one_target (suc n) g known l = by_last (cases_eq (group_of setup g.step) n) (λ below_it. one_target n g known below_it) (one_target n) where
      by_last : (group_of setup g.step ≡ n) ⊎ (group_of setup g.step ≢ n)
          → (group_of setup g.step < n → target_in setup v.operator g ≡ target_in setup w.operator g)
          → OneTarget n → target_in setup v.operator g ≡ target_in setup w.operator g
      by_last (inl e) earlier ones = next_target n ones g known e
      by_last (inr ne) earlier ones = earlier (omega (arith, l, ne))

    -- so sessions belong at the same places
    pub placed_by_outcomes : (p : ℕ) → placement setup v.operator p ≡ placement setup w.operator p
    placed_by_outcomes p = placed_alike setup w.operator v.operator p
        (all_map (IsGraftOf setup p) (CountsAlike setup w.operator v.operator) (grafts_of setup p) (λ g own. record {
          accepted = ap is_accepted (outcomes g.graft);
          target = λ _. one_target (suc (group_of setup g.step)) g own.0 (omega arith);
        }) (all_of_peering setup p))

-- Where both worlds are settled, what became of the grafts alone says where sessions belong.
pub placed_same : (setup : Setup) (w v : World) → IsSetup setup → Reached setup w → Reached setup v → IsSettled setup w → IsSettled setup v → HaveOneLog w v
    → (p : ℕ) → placement setup v.operator p ≡ placement setup w.operator p
placed_same setup w v ok reached other settled settled_other log =
    placed_by_outcomes setup ok w v reached other (omega (arith, settled.last, settled_other.last)) begun log
  where
    begun : (g : ScriptGraft) → graft_at setup g.graft ≡ Some g → group_of setup g.step ≤ w.operator.group
    begun g known =
        let is = step_of_graft setup g.graft g known in
        let l : group_of setup g.step < groups_in setup = in_ended None setup.steps g.step is.step is.there (no_settle is.step is.index is.moved) ok.ended in
        omega (arith, l, settled.last)
      where
        no_settle : (step : ScriptStep) (index : ℕ) → slice_get (moved_by setup step) index ≡ Some g.peering → is_settle step ≡ false
        no_settle (SayStep p bytes) index e = refl
        no_settle (MoveStep p target) index e = refl
        no_settle (EvacuateStep router) index e = refl
        no_settle SettleStep index e = absurd cc
