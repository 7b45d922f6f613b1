-- Where the script has a session, graft by graft, and where it belongs by a log that has these results.
use Rattle.std.proofs.Common.{◌≡◌, ◌≢◌, ◌==◌, cond, ℕ, ◌<◌, Bool, true, false, List, [], ◌∷◌, ◌++◌, Option, Some, None, refl, sym, ap, ◌∙◌, subst, arith}
use Rattle.std.proofs.lemmas.Bool.Decides.{nat_tests}
use Rattle.std.proofs.lemmas.List.Elements.{filter-append, filter_map-append}
use Rattle.std.proofs.lemmas.List.{append-nil, append_assoc}
use Rattle.std.specs.Prelude.{filter, slice_get, unwrap_or, nat_lt}
use Rattle.std.specs.List.{AllByRecursion, filter_map, last_or, cons_option}
use Rattle.std.specs.Option.{option_and_then}
use Rattle.graft_steps.specs.declared.refusal.Outcome.{Outcome}
use Rattle.graft_steps.specs.declared.refusal.Outcome.TheVariants.{Accepted, Refused}
use Rattle.session_value.specs.declared.config.SessionConfig.{SessionConfig}
use Rattle.graft_model.specs.Setups.{Setup, ScriptStep, SayStep, MoveStep, EvacuateStep, SettleStep, ScriptGraft, graft_at, grafts_in, moved_by, start_of}
use Rattle.graft_model.specs.Parts.{Unmade, OperatorPart}
use Rattle.graft_model.specs.Placements.{is_accepted, target_by, target_in, placement}
use Rattle.graft_model.proofs.Numbers.{step_of_graft}
use Rattle.graft_laws.specs.Log.{grafts_of}
use Rattle.graft_laws.proofs.Lists.{all_map, filter_none, filter_twice}
use Rattle.graft_laws.proofs.Numbers.{before_below, behind_above}
use Rattle.graft_laws.proofs.Placements.{accepts, by_last, placed_by}
use Rattle.sure_results.specs.Results.{result_at, router_after_graft, router_after, target_named, targets_before}

-- ---- targets

-- no step empties a router
abbrev pub OnlyMoves : Setup → Type 0
OnlyMoves setup = (n r : ℕ) → slice_get setup.steps n ≢ Some (EvacuateStep r)

module _ (setup : Setup) (moves : OnlyMoves setup) where
  -- so each target is the one that its step names
  pub target_is_named : (operator : OperatorPart) (g : ScriptGraft) → target_in setup operator g ≡ target_named setup g
  target_is_named operator g = by_step (slice_get setup.steps g.step) refl where
    by_step : (o : Option ScriptStep) → slice_get setup.steps g.step ≡ o
        → target_by (slice_get setup.steps g.step) (operator.given g.graft) ≡ target_by (slice_get setup.steps g.step) Unmade
    by_step (Some (EvacuateStep r)) e = absurd (moves g.step r e)
    by_step (Some (SayStep q bytes)) e = ap (λ (s : Option ScriptStep). target_by s (operator.given g.graft)) e
        ∙ sym (ap (λ (s : Option ScriptStep). target_by s Unmade) e)
    by_step (Some (MoveStep q t)) e = ap (λ (s : Option ScriptStep). target_by s (operator.given g.graft)) e
        ∙ sym (ap (λ (s : Option ScriptStep). target_by s Unmade) e)
    by_step (Some SettleStep) e = ap (λ (s : Option ScriptStep). target_by s (operator.given g.graft)) e
        ∙ sym (ap (λ (s : Option ScriptStep). target_by s Unmade) e)
    by_step None e = ap (λ (s : Option ScriptStep). target_by s (operator.given g.graft)) e ∙ sym (ap (λ (s : Option ScriptStep). target_by s Unmade) e)

  -- and each graft has one
  pub has_target : (g : ScriptGraft) → graft_at setup g.graft ≡ Some g → (target : ℕ) × (target_named setup g ≡ Some target)
  has_target g known = let is = step_of_graft setup g.graft g known in by_step is.step is.index is.there is.moved where
    by_step : (step : ScriptStep) (index : ℕ) → slice_get setup.steps g.step ≡ Some step → slice_get (moved_by setup step) index ≡ Some g.peering
        → (target : ℕ) × (target_named setup g ≡ Some target)
    by_step (MoveStep q t) index there moved = (t, ap (λ (s : Option ScriptStep). target_by s Unmade) there)
    by_step (EvacuateStep r) index there moved = absurd (moves g.step r there)
    by_step (SayStep q bytes) index there moved = absurd cc
    by_step SettleStep index there moved = absurd cc

-- ---- the targets before a graft

filter_each : {A : Type 0} (test : A → Bool) (xs : List A) → AllByRecursion (λ x. test x ≡ true) xs → filter test xs ≡ xs
filter_each test [] all = refl
filter_each test (x ∷ xs) all = ap (λ (b : Bool). cond b (x ∷ filter test xs) (filter test xs)) all.0
    ∙ ap (λ (ys : List _). x ∷ ys) (filter_each test xs all.1)

-- a peering's grafts with lower numbers are those in front
pub front_targets : (setup : Setup) (p : ℕ) (front back : List ScriptGraft) (g : ScriptGraft) → grafts_of setup p ≡ front ++ g ∷ back
    → targets_before setup p g.graft ≡ filter_map (target_named setup) front
front_targets setup p front back g is =
    let below : ScriptGraft → Bool = λ x. nat_lt x.graft g.graft in
    let own : ScriptGraft → Bool = λ x. x.peering == p in
    let kept : filter below front ≡ front =
    filter_each below front (all_map (λ (x : ScriptGraft). x.graft < g.graft) (λ (x : ScriptGraft). below x ≡ true) front
    (λ x l. (let t : nat_lt x.graft g.graft ≡ true = grind (arith, nat_tests) in t)) (before_below setup p front back g is)) in
    let here : below g ≡ false = (let t : nat_lt g.graft g.graft ≡ false = grind (arith, nat_tests) in t) in
    let none : filter below (g ∷ back) ≡ [] =
    filter_none below (g ∷ back) (
      here,
      all_map (λ (x : ScriptGraft). g.graft < x.graft) (λ (x : ScriptGraft). below x ≡ false) back
          (λ x l. (let t : nat_lt x.graft g.graft ≡ false = grind (arith, nat_tests) in t)) (behind_above setup p front back g is),
    ) in
    ap (filter_map (target_named setup))
    (filter_twice own below (grafts_in setup)
    ∙ ap (filter below) is
    ∙ filter-append below front (g ∷ back)
    ∙ ap (λ (xs : List ScriptGraft). filter below front ++ xs) none
    ∙ append-nil (filter below front)
    ∙ kept)

-- ---- one graft after another

pub after_both : (setup : Setup) (config : SessionConfig) (r : ℕ) (xs ys : List ℕ)
    → router_after setup config r (xs ++ ys) ≡ router_after setup config (router_after setup config r xs) ys
after_both setup config r [] ys = refl
after_both setup config r (x ∷ xs) ys = after_both setup config (router_after_graft r x (result_at setup config r x)) xs ys

-- A graft has, in a log, the result that the script has for it where its session is at the router r.
pub record HasResult (setup : Setup) (config : SessionConfig) (operator : OperatorPart) (r : ℕ) (g : ScriptGraft) : Type 0 where
  pub target : ℕ
  pub named : target_named setup g ≡ Some target
  pub outcome : operator.outcome g.graft ≡ Some (result_at setup config r target)

module _ (setup : Setup) (config : SessionConfig) (operator : OperatorPart) where
  -- each of some grafts has its result, where the session is at the router r before them
  abbrev pub HaveResults : ℕ → List ScriptGraft → Type 0
  HaveResults r [] = Unit {0}
  HaveResults r (g ∷ gs) = (h : HasResult setup config operator r g) × HaveResults (router_after_graft r h.target (result_at setup config r h.target)) gs

  -- where it is after the grafts that were in front already
  abbrev at_front : ℕ → List ScriptGraft → ℕ
  at_front r gs = router_after setup config r (filter_map (target_named setup) gs)

  one_after : (r : ℕ) (front : List ScriptGraft) (g : ScriptGraft) (target : ℕ) → target_named setup g ≡ Some target
      → at_front r (front ++ g ∷ []) ≡ router_after_graft (at_front r front) target (result_at setup config (at_front r front) target)
  one_after r front g target named =
      ap (router_after setup config r) (filter_map-append (target_named setup) front (g ∷ [])
      ∙ ap (λ (o : Option ℕ). filter_map (target_named setup) front ++ cons_option o []) named)
      ∙ after_both setup config r (filter_map (target_named setup) front) (target ∷ [])

  module _ (start : ℕ) (target_is : (g : ScriptGraft) → target_in setup operator g ≡ target_named setup g) where
    -- where the last that was accepted of some grafts says that the session is
    abbrev placed_then : Option ScriptGraft → ℕ
    placed_then o = unwrap_or (option_and_then (target_in setup operator) o) start

    by_results : (r : ℕ) (d : Option ScriptGraft) (gs : List ScriptGraft) → HaveResults r gs → placed_then d ≡ r
        → placed_then (last_or d (filter (accepts operator) gs)) ≡ at_front r gs
    by_results r d [] all e = e
    by_results r d (g ∷ gs) all e =
        let h : HasResult setup config operator r g = all.0 in
        let step : at_front r (g ∷ gs) ≡ at_front (router_after_graft r h.target (result_at setup config r h.target)) gs =
        ap (λ (o : Option ℕ). router_after setup config r (cons_option o (filter_map (target_named setup) gs))) h.named in
        by_result (result_at setup config r h.target) refl
        (λ d' e'. by_results (router_after_graft r h.target (result_at setup config r h.target)) d' gs all.1 e')
        ∙ sym step
      where
        by_result : (o : Outcome) → result_at setup config r all.0.target ≡ o
            → ((d' : Option ScriptGraft) → placed_then d' ≡ router_after_graft r all.0.target (result_at setup config r all.0.target)
            → placed_then (last_or d' (filter (accepts operator) gs)) ≡ at_front (router_after_graft r all.0.target (result_at setup config r all.0.target)) gs)
            → placed_then (last_or d (filter (accepts operator) (g ∷ gs)))
            ≡ at_front (router_after_graft r all.0.target (result_at setup config r all.0.target)) gs
        by_result Accepted is later =
            let yes : accepts operator g ≡ true = ap is_accepted (all.0.outcome ∙ ap (λ (o : Outcome). Some o) is) in
            ap (λ (b : Bool). placed_then (last_or d (cond b (g ∷ filter (accepts operator) gs) (filter (accepts operator) gs)))) yes
            ∙ later (Some g) (ap (λ (o : Option ℕ). unwrap_or o start) (target_is g ∙ all.0.named) ∙ sym (ap (router_after_graft r all.0.target) is))
        by_result (Refused refusal) is later =
            let no : accepts operator g ≡ false = ap is_accepted (all.0.outcome ∙ ap (λ (o : Outcome). Some o) is) in
            ap (λ (b : Bool). placed_then (last_or d (cond b (g ∷ filter (accepts operator) gs) (filter (accepts operator) gs)))) no
            ∙ later d (e ∙ sym (ap (router_after_graft r all.0.target) is))

-- Where the first grafts of a peering have their results, and none of the others was accepted, its session belongs where the script has it after these.
pub placed_by_results : (setup : Setup) (config : SessionConfig) (operator : OperatorPart) (p : ℕ) (front back : List ScriptGraft)
    → ((g : ScriptGraft) → target_in setup operator g ≡ target_named setup g) → grafts_of setup p ≡ front ++ back
    → HaveResults setup config operator (start_of setup p) front → AllByRecursion (λ g. accepts operator g ≡ false) back
    → placement setup operator p ≡ router_after setup config (start_of setup p) (filter_map (target_named setup) front)
placed_by_results setup config operator p front back target_is is have none =
    let left : filter (accepts operator) (grafts_of setup p) ≡ filter (accepts operator) front =
    ap (filter (accepts operator)) is ∙ filter-append (accepts operator) front back
    ∙ ap (λ (xs : List ScriptGraft). filter (accepts operator) front ++ xs) (filter_none (accepts operator) back none)
    ∙ append-nil (filter (accepts operator) front) in
    placed_by setup operator p
    ∙ ap (by_last setup operator p) left
    ∙ by_results setup config operator (start_of setup p) target_is (start_of setup p) None front have refl

-- Where each of these grafts of a peering, of those that stand in front, has the result that the script has for it, they have results one after another.
pub results_in_turn : (setup : Setup) (config : SessionConfig) (operator : OperatorPart) (r : ℕ) (front gs : List ScriptGraft)
    → ((done rest : List ScriptGraft) (g : ScriptGraft) → front ++ gs ≡ done ++ g ∷ rest
    → HasResult setup config operator (router_after setup config r (filter_map (target_named setup) done)) g)
    → HaveResults setup config operator (router_after setup config r (filter_map (target_named setup) front)) gs
results_in_turn setup config operator r front [] each = tt
results_in_turn setup config operator r front (g ∷ gs) each =
    let h = each front gs g refl in
    let next = one_after setup config operator r front g h.target h.named in (
      h,
      subst (λ (x : ℕ). HaveResults setup config operator x gs) next
          (results_in_turn setup config operator r (front ++ g ∷ []) gs (λ done rest x e. each done rest x (sym (append_assoc front (g ∷ []) gs) ∙ e))),
    )
