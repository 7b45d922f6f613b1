-- What the log has of each graft is the result that the script has for it.
use Rattle.std.proofs.Common.{◌≡◌, ◌≢◌, ℕ, ◌<◌, true, false, List, [], ◌∷◌, ◌++◌, Option, Some, None, refl, sym, ap, ◌∙◌, subst, arith, ◌⊎◌, inl, inr}
use Rattle.std.proofs.Common.{append_assoc, append-nil}
use Rattle.std.proofs.lemmas.Bool.{cases_eq}
use Rattle.std.proofs.lemmas.Bool.Decides.{nat_tests}
use Rattle.std.proofs.lemmas.Option.{same_Some}
use Rattle.std.specs.Prelude.{slice_get}
use Rattle.std.specs.List.{AllByRecursion, filter_map}
use Rattle.graft_steps.specs.declared.refusal.Outcome.{Outcome}
use Rattle.graft_steps.specs.declared.refusal.Outcome.TheVariants.{Accepted, Refused}
use Rattle.session_value.specs.Sessions.{SessionValue}
use Rattle.session_value.specs.declared.config.SessionConfig.{SessionConfig}
use Rattle.graft_model.specs.Points.{at}
use Rattle.graft_model.specs.Setups.{Setup, ScriptStep, SayStep, MoveStep, EvacuateStep, SettleStep, ScriptGraft, IsSetup, group_of, groups_in, moved_by}
use Rattle.graft_model.specs.Setups.{is_settle, graft_at, config_of, start_of}
use Rattle.graft_model.specs.Parts.{OperatorPart, Report, World}
use Rattle.graft_model.specs.Placements.{is_accepted, target_in, placement}
use Rattle.graft_model.specs.declared.event.OperatorEvent.{OperatorEvent}
use Rattle.graft_model.specs.declared.event.OperatorEvent.TheVariants.{Order, Note, Go}
use Rattle.graft_model.specs.Steps.{OperatorStep, Heads}
use Rattle.graft_model.proofs.Numbers.{step_of_graft}
use Rattle.graft_laws.specs.Keeps.{Reached}
use Rattle.graft_laws.specs.Log.{grafts_of, is_graft_on, HasEnded, AwaitsOrder, IsBehind, GoesOnIn, LogSays}
use Rattle.graft_laws.specs.Moves.{OperatorHeads}
use Rattle.graft_laws.specs.Owned.{reports_of, Stands, IsInSomePhase}
use Rattle.graft_laws.specs.Phases.{Stage, Declined, Cleared, Phase, Idle, Busy, source_of, reports_by}
use Rattle.graft_laws.proofs.Following.{own_head}
use Rattle.graft_laws.proofs.GraftBounds.{graft_within}
use Rattle.graft_laws.proofs.GroupGifts.{always_operator, over_ended}
use Rattle.graft_laws.proofs.Lists.{all_map, all_both, all_front, all_join}
use Rattle.graft_laws.proofs.Logs.{grafts_are}
use Rattle.graft_laws.proofs.Moves.{operator_moves}
use Rattle.graft_laws.proofs.Numbers.{found_in, IsGraftOf, all_of_peering, is_own}
use Rattle.graft_laws.proofs.Phases.{refusal_in, success_in}
use Rattle.graft_laws.proofs.Placements.{accepts}
use Rattle.graft_laws.proofs.Runs.{always_owned}
use Rattle.one_answer.specs.Settled.{IsSettled}
use Rattle.one_answer.proofs.Unsaid.{in_ended}
use Rattle.sure_results.specs.Results.{result_at, router_after, target_named, targets_before, result_of, HasResults, IsSure}
use Rattle.sure_results.proofs.Scripts.{OnlyMoves, target_is_named, has_target, front_targets, HasResult, HaveResults, placed_by_results, results_in_turn}
use Rattle.sure_results.proofs.Stages.{IsResult, StaysUpBusy, always_shows}

-- What the log has of a graft is its result.
abbrev pub SaysResults : Setup → OperatorPart → Type 0
SaysResults setup operator = (g : ScriptGraft) (config : SessionConfig) (target : ℕ) (outcome : Outcome) → graft_at setup g.graft ≡ Some g
    → config_of setup g.peering ≡ Some config → target_named setup g ≡ Some target → operator.outcome g.graft ≡ Some outcome
    → outcome ≡ result_of setup config g target

-- a graft has its outcome
abbrev pub HasOutcome : OperatorPart → ScriptGraft → Type 0
HasOutcome operator g = operator.outcome g.graft ≢ None

-- the result of a graft, by those that stand in front of it
result_front : (setup : Setup) (config : SessionConfig) (p target : ℕ) (front back : List ScriptGraft) (g : ScriptGraft)
    → grafts_of setup p ≡ front ++ g ∷ back → g.peering ≡ p
    → result_of setup config g target ≡ result_at setup config (router_after setup config (start_of setup p) (filter_map (target_named setup) front)) target
result_front setup config p target front back g is own =
    ap (λ (q : ℕ). result_at setup config (router_after setup config (start_of setup q) (targets_before setup q g.graft)) target) own
    ∙ ap (λ (xs : List ℕ). result_at setup config (router_after setup config (start_of setup p) xs) target) (front_targets setup p front back g is)

-- ---- where a session belongs by a log of results

module _ (setup : Setup) (moves : OnlyMoves setup) (operator : OperatorPart) (says : SaysResults setup operator) (p : ℕ) (config : SessionConfig)
    (known : config_of setup p ≡ Some config) where
  result_in : (front back : List ScriptGraft) (g : ScriptGraft) → grafts_of setup p ≡ front ++ g ∷ back → HasOutcome operator g
      → HasResult setup config operator (router_after setup config (start_of setup p) (filter_map (target_named setup) front)) g
  result_in front back g is ended = by_outcome (operator.outcome g.graft) refl where
    own : IsGraftOf setup p g
    own = found_in front back g (IsGraftOf setup p) (subst (λ (xs : List ScriptGraft). AllByRecursion (IsGraftOf setup p) xs) is (all_of_peering setup p))

    by_outcome : (o : Option Outcome) → operator.outcome g.graft ≡ o → HasResult setup config operator
        (router_after setup config (start_of setup p) (filter_map (target_named setup) front)) g
    by_outcome None e = absurd (ended e)
    by_outcome (Some outcome) e =
        let t = has_target setup moves g own.0 in
        record {
          target = t.0;
          named = t.1;
          outcome = e ∙ ap (λ (o : Outcome). Some o) (says g config t.0 outcome own.0 (ap (config_of setup) own.1 ∙ known) t.1 e
              ∙ result_front setup config p t.0 front back g is own.1);
        }

  front_results : (front back : List ScriptGraft) → grafts_of setup p ≡ front ++ back → AllByRecursion (HasOutcome operator) front
      → HaveResults setup config operator (start_of setup p) front
  front_results front back is ended = results_in_turn setup config operator (start_of setup p) [] front (λ done rest g e.
      result_in done (rest ++ back) g (is ∙ ap (λ (xs : List ScriptGraft). xs ++ back) e ∙ append_assoc done (g ∷ rest) back)
      (found_in done rest g (HasOutcome operator) (subst (λ (xs : List ScriptGraft). AllByRecursion (HasOutcome operator) xs) e ended)))

  pub placed_front : (front back : List ScriptGraft) → grafts_of setup p ≡ front ++ back → AllByRecursion (HasOutcome operator) front
      → AllByRecursion (λ g. accepts operator g ≡ false) back
      → placement setup operator p ≡ router_after setup config (start_of setup p) (filter_map (target_named setup) front)
  placed_front front back is ended none =
      placed_by_results setup config operator p front back (target_is_named setup moves operator) is (front_results front back is ended) none

  -- what is behind has its outcome
  over_outcome : (g : ScriptGraft) → IsGraftOf setup p g → IsBehind setup operator g → HasOutcome operator g
  over_outcome g own b = by_over b.over where
    by_over : HasEnded operator g ⊎ (AwaitsOrder operator g × (target_in setup operator g ≡ None)) → HasOutcome operator g
    by_over (inl ended) = ended.ended
    by_over (inr (waits, none)) =
        let t = has_target setup moves g own.0 in
        let e : Some t.0 ≡ None = sym t.1 ∙ sym (target_is_named setup moves operator g) ∙ none in absurd cc

  none_now : (phase : Phase) (now : List ScriptGraft) → GoesOnIn setup operator p phase now → AllByRecursion (λ g. accepts operator g ≡ false) now
  none_now (Idle q) now none = subst (λ (xs : List ScriptGraft). AllByRecursion (λ g. accepts operator g ≡ false) xs) (sym none) tt
  none_now (Busy q k t stage) now on = subst (λ (xs : List ScriptGraft). AllByRecursion (λ g. accepts operator g ≡ false) xs) (sym on.is)
      (ap is_accepted on.unended, tt)

  -- the session belongs where the script has it after the grafts that are behind
  pub placed_past : (phase : Phase) (log : LogSays setup operator p phase)
      → source_of phase ≡ router_after setup config (start_of setup p) (filter_map (target_named setup) log.past)
  placed_past phase log =
      let own : AllByRecursion (IsGraftOf setup p) log.past =
      all_front (IsGraftOf setup p) log.past (log.now ++ log.later) (subst (λ (xs : List ScriptGraft). AllByRecursion (IsGraftOf setup p) xs) log.grafts
      (all_of_peering setup p)) in
      sym log.placed
      ∙ placed_front log.past (log.now ++ log.later) log.grafts
      (all_both (IsGraftOf setup p) (IsBehind setup operator) (HasOutcome operator) log.past over_outcome own log.are_behind)
      (all_join (λ g. accepts operator g ≡ false) log.now log.later (none_now phase log.now log.goes_on)
      (all_map (AwaitsOrder operator) (λ g. accepts operator g ≡ false) log.later (λ g w. ap is_accepted w.unended) log.wait))

-- ---- along runs

module _ (setup : Setup) (ok : IsSetup setup) (sure : IsSure setup) (up : StaysUpBusy setup) where
  still : (before after : OperatorPart) → after.outcome ≡ before.outcome → SaysResults setup before → SaysResults setup after
  still before after same says g config target outcome known config_is named e =
      says g config target outcome known config_is named (ap (λ (f : ℕ → Option Outcome). f g.graft) (sym same) ∙ e)

  -- the outcome that a phase has under way is that of its graft
  module _ (w : World) (reached : Reached setup w) (says : SaysResults setup w.operator) (g : ScriptGraft) (config : SessionConfig) (target r t : ℕ)
      (stage : Stage) (s : SessionValue)
      (known : graft_at setup g.graft ≡ Some g) (config_is : config_of setup g.peering ≡ Some config) (named : target_named setup g ≡ Some target)
      (stands : Stands setup w g.peering (Busy r g.graft t stage) s) where
    abbrev it : ScriptGraft
    it = record { graft = g.graft; peering = g.peering; step = stands.log.goes_on.step }

    same : it ≡ g
    same = same_Some it g (sym stands.log.goes_on.known ∙ known)

    target_same : target ≡ t
    target_same = same_Some target t (sym named ∙ ap (target_named setup) (sym same) ∙ sym (target_is_named setup sure.moves w.operator it)
        ∙ stands.log.goes_on.aims)

    result_now : result_of setup config g target ≡ result_at setup config r t
    result_now =
        ap (λ (x : ScriptGraft). result_of setup config x target) (sym same)
        ∙ result_front setup config g.peering target stands.log.past stands.log.later it
        (grafts_are setup w.operator g.peering r g.graft t stage stands.log) refl
        ∙ ap (λ (q : ℕ). result_at setup config q target) (sym (placed_past setup sure.moves w.operator says g.peering config config_is
        (Busy r g.graft t stage) stands.log))
        ∙ ap (result_at setup config r) target_same

    shown : IsResult setup config (Busy r g.graft t stage)
    shown = always_shows setup ok sure up w g.peering (Busy r g.graft t stage) s config reached (graft_within setup g.graft g ok known) stands config_is

  module _ (before after : World) (r : ℕ) (reached : Reached setup before) (x : OperatorStep setup (Note r) before after)
      (says : SaysResults setup before.operator) where
    abbrev report : Report
    report = x.row.report

    heads : Heads (before.reports r) report
    heads = subst (OperatorHeads before) x.row.takes (operator_moves setup (Note r) before after x).heads

    -- the report that is noted is that of a phase
    noted : (g : ScriptGraft) (config : SessionConfig) (target : ℕ) → graft_at setup g.graft ≡ Some g → config_of setup g.peering ≡ Some config
        → target_named setup g ≡ Some target → report.graft ≡ g.graft → report.outcome ≡ result_of setup config g target
    noted g config target known config_is named is =
        by_outcome ((always_owned setup ok before reached).peerings g.peering (graft_within setup g.graft g ok known)) report.outcome refl
      where
        own : is_graft_on setup g.peering report.graft ≡ true
        own = ap (is_graft_on setup g.peering) is ∙ is_own setup g.peering g (known, refl)

        there : (held : IsInSomePhase setup before g.peering) (o : Outcome) → report.outcome ≡ o
            → record { graft = g.graft; outcome = o } ∷ reports_of setup g.peering heads.rest ≡ reports_by held.phase r
        there held o e =
            ap (λ (k : ℕ). record { graft = k; outcome = o } ∷ reports_of setup g.peering heads.rest) (sym is)
            ∙ ap (λ (y : Outcome). record { graft = report.graft; outcome = y } ∷ reports_of setup g.peering heads.rest) (sym e)
            ∙ own_head (λ (y : Report). is_graft_on setup g.peering y.graft) (before.reports r) heads.rest report heads.is own
            ∙ held.stands.reports r

        by_outcome : (held : IsInSomePhase setup before g.peering) (o : Outcome) → report.outcome ≡ o → report.outcome ≡ result_of setup config g target
        by_outcome held (Refused refusal) e =
            let f = refusal_in held.phase r g.graft refusal (reports_of setup g.peering heads.rest) (there held (Refused refusal) e) in
            let b : Stands setup before g.peering (Busy r g.graft f.0 (Declined refusal)) held.session =
            subst (λ (y : Phase). Stands setup before g.peering y held.session) f.1 held.stands in
            e ∙ sym (shown before reached says g config target r f.0 (Declined refusal) held.session known config_is named b)
            ∙ sym (result_now before reached says g config target r f.0 (Declined refusal) held.session known config_is named b)
        by_outcome held Accepted e =
            let f = success_in held.phase r g.graft (reports_of setup g.peering heads.rest) (there held Accepted e) in
            let b : Stands setup before g.peering (Busy r g.graft f.0 Cleared) held.session =
            subst (λ (y : Phase). Stands setup before g.peering y held.session) f.1 held.stands in
            e ∙ sym (shown before reached says g config target r f.0 Cleared held.session known config_is named b)
            ∙ sym (result_now before reached says g config target r f.0 Cleared held.session known config_is named b)

    notes : SaysResults setup x.part
    notes g config target outcome known config_is named e = by_graft (cases_eq g.graft report.graft) where
      now : at before.operator.outcome report.graft (Some report.outcome) g.graft ≡ Some outcome
      now = ap (λ (o : OperatorPart). o.outcome g.graft) (sym x.row.effect) ∙ e

      by_graft : (g.graft ≡ report.graft) ⊎ (g.graft ≢ report.graft) → outcome ≡ result_of setup config g target
      by_graft (inl is) =
          let here : at before.operator.outcome report.graft (Some report.outcome) g.graft ≡ Some report.outcome = grind (arith, nat_tests) in
          same_Some outcome report.outcome (sym now ∙ here) ∙ noted g config target known config_is named (sym is)
      by_graft (inr ne) =
          let there : at before.operator.outcome report.graft (Some report.outcome) g.graft ≡ before.operator.outcome g.graft = grind (arith, nat_tests) in
          says g config target outcome known config_is named (sym there ∙ now)

  keeps_says : (event : OperatorEvent) (before after : World) → Reached setup before → OperatorStep setup event before after
      → SaysResults setup before.operator → SaysResults setup after.operator
  keeps_says event before after reached x says = subst (SaysResults setup) (sym (operator_moves setup event before after x).operator)
      (by_event event x says) where
        by_event : (event : OperatorEvent) (x : OperatorStep setup event before after) → SaysResults setup before.operator → SaysResults setup x.part
        by_event (Order n number) x says = elim x.row [
          | inl row ↦ still before.operator x.part (ap (λ (o : OperatorPart). o.outcome) row.effect) says
          | inr row ↦ still before.operator x.part (ap (λ (o : OperatorPart). o.outcome) row.effect) says
        ]
        by_event (Note r) x says = notes before after r reached x says
        by_event Go x says = still before.operator x.part (ap (λ (o : OperatorPart). o.outcome) x.row.effect) says

  always_says : (w : World) → Reached setup w → SaysResults setup w.operator
  always_says = always_operator setup (SaysResults setup) (λ g config target outcome known config_is named e. absurd cc) keeps_says

  -- ---- once all is settled

  module _ (w : World) (reached : Reached setup w) (settled : IsSettled setup w) where
    begun : (g : ScriptGraft) → graft_at setup g.graft ≡ Some g → group_of setup g.step < groups_in setup
    begun g known =
        let is = step_of_graft setup g.graft g known in
        in_ended None setup.steps g.step is.step is.there (no_settle is.step is.index is.moved) ok.ended
      where
        no_settle : (step : ScriptStep) (index : ℕ) → slice_get (moved_by setup step) index ≡ Some g.peering → is_settle step ≡ false
        no_settle (SayStep q bytes) index e = refl
        no_settle (MoveStep q target) index e = refl
        no_settle (EvacuateStep router) index e = refl
        no_settle SettleStep index e = absurd cc

    all_ended : (g : ScriptGraft) → graft_at setup g.graft ≡ Some g → HasOutcome w.operator g
    all_ended g known = by_group (cases_eq (group_of setup g.step) w.operator.group) where
      made : target_in setup w.operator g ≢ None
      made none =
          let t = has_target setup sure.moves g known in
          let e : Some t.0 ≡ None = sym t.1 ∙ sym (target_is_named setup sure.moves w.operator g) ∙ none in absurd cc

      by_group : (group_of setup g.step ≡ w.operator.group) ⊎ (group_of setup g.step ≢ w.operator.group) → HasOutcome w.operator g
      by_group (inl at_work) = settled.quiet.ended g known at_work made
      by_group (inr other) =
          let below = begun g known in
          over_ended setup w reached g known (omega (arith, other, below, settled.last)) made

    pub has_results : HasResults setup w.operator
    has_results = record {
      results = λ g config target known config_is named. by_value g config target known config_is named (w.operator.outcome g.graft) refl;
      placed = λ p config config_is. placed_front setup sure.moves w.operator (always_says w reached) p config config_is (grafts_of setup p) []
          (sym (append-nil (grafts_of setup p)))
          (all_map (IsGraftOf setup p) (HasOutcome w.operator) (grafts_of setup p) (λ g own. all_ended g own.0) (all_of_peering setup p)) tt;
    }
      where
        by_value : (g : ScriptGraft) (config : SessionConfig) (target : ℕ) → graft_at setup g.graft ≡ Some g → config_of setup g.peering ≡ Some config
            → target_named setup g ≡ Some target
            → (o : Option Outcome) → w.operator.outcome g.graft ≡ o → w.operator.outcome g.graft ≡ Some (result_of setup config g target)
        by_value g config target known config_is named None e = absurd (all_ended g known e)
        by_value g config target known config_is named (Some outcome) e =
            e ∙ ap (λ (o : Outcome). Some o) (always_says w reached g config target outcome known config_is named e)
