-- The log when the outcome of a graft is noted.
use Rattle.std.proofs.Common.{◌≡◌, ◌==◌, ℕ, Bool, true, false, [], ◌∷◌, ◌++◌, Some, None, refl, sym, ap, ◌∙◌, subst, arith, append_assoc, ◌⊎◌, inl, inr}
use Rattle.std.proofs.lemmas.Bool.Decides.{nat_tests}
use Rattle.std.specs.Prelude.{◌≢◌}
use Rattle.std.specs.List.{AllByRecursion}
use Rattle.graft_steps.specs.declared.refusal.Refusal.{Refusal}
use Rattle.graft_steps.specs.declared.refusal.Outcome.{Outcome}
use Rattle.graft_steps.specs.declared.refusal.Outcome.TheVariants.{Accepted, Refused}
use Rattle.graft_model.specs.Points.{at}
use Rattle.graft_model.specs.Setups.{Setup, ScriptGraft}
use Rattle.graft_model.specs.Parts.{OperatorPart}
use Rattle.graft_model.specs.Placements.{is_accepted, target_in, placement}
use Rattle.graft_laws.specs.Phases.{Stage, Idle, Busy}
use Rattle.graft_laws.specs.Log.{grafts_of, is_graft_on, HasEnded, AwaitsOrder, IsBehind, LogSays}
use Rattle.graft_laws.proofs.Lists.{all_of, all_map, all_join}
use Rattle.graft_laws.proofs.Placements.{accepts, CountsAlike, placed_alike, placed_last}
use Rattle.graft_laws.proofs.Others.{SameLog, same_if}
use Rattle.graft_laws.proofs.Logs.{grafts_are}

module _ (setup : Setup) (before : OperatorPart) (p k : ℕ) (outcome : Outcome) where
  abbrev pub with_outcome : OperatorPart
  with_outcome = record before { outcome = at before.outcome k (Some outcome) }

  -- what the note does to the log of another peering
  pub note_others : is_graft_on setup p k ≡ false → SameLog setup p before with_outcome
  note_others not_own = same_if setup p before with_outcome refl refl (λ j own. refl) (λ j own.
      let differs : j ≢ k = (λ (is : j ≡ k).
      (let e : is_graft_on setup p k ≡ true = subst (λ (x : ℕ). is_graft_on setup p x ≡ true) is own in absurd cc)) in grind (arith, nat_tests))

  ended_then : (g : ScriptGraft) → HasEnded before g → HasEnded with_outcome g
  ended_then g was = record { ordered = was.ordered; ended = λ none. was.ended (grind (arith, nat_tests)) }

  waits_then : (q : ℕ) (g : ScriptGraft) → before.source k ≡ Some q → AwaitsOrder before g → AwaitsOrder with_outcome g
  waits_then q g ordered was =
      let differs : g.graft ≢ k = (λ (is : g.graft ≡ k). (let e : Some q ≡ None = sym ordered ∙ (ap before.source (sym is) ∙ was.unordered) in absurd cc)) in
      record { unordered = was.unordered; unended = grind (arith, nat_tests, was.unended) }

  behind_then : (q : ℕ) (g : ScriptGraft) → before.source k ≡ Some q → IsBehind setup before g → IsBehind setup with_outcome g
  behind_then q g ordered was = record { begun = was.begun; over = over was.over } where
    over : HasEnded before g ⊎ (AwaitsOrder before g × (target_in setup before g ≡ None))
        → HasEnded with_outcome g ⊎ (AwaitsOrder with_outcome g × (target_in setup with_outcome g ≡ None))
    over (inl ended) = inl (ended_then g ended)
    over (inr (waits, none)) = inr (waits_then q g ordered waits, none)

module _ (setup : Setup) (before : OperatorPart) (p q k t : ℕ) (stage : Stage) (outcome : Outcome) (log : LogSays setup before p (Busy q k t stage)) where
  abbrev g : ScriptGraft
  g = record { graft = k; peering = p; step = log.goes_on.step }

  abbrev then : OperatorPart
  then = with_outcome setup before p k outcome

  wait_then : AllByRecursion (AwaitsOrder then) log.later
  wait_then = all_map (AwaitsOrder before) (AwaitsOrder then) log.later (λ x. waits_then setup before p k outcome q x log.goes_on.ordered) log.wait

  none_later : AllByRecursion (λ (x : ScriptGraft). accepts then x ≡ false) log.later
  none_later = all_map (AwaitsOrder then) (λ (x : ScriptGraft). accepts then x ≡ false) log.later (λ x w. ap is_accepted w.unended) wait_then

  ended_here : HasEnded then g
  ended_here = record {
    ordered = λ none. (let e : Some q ≡ None = sym log.goes_on.ordered ∙ none in absurd cc);
    ended = λ none. (let e : then.outcome k ≡ Some outcome = grind (arith, nat_tests) in let f : Some outcome ≡ None = sym e ∙ none in absurd cc);
  }

  log_then : (final : ℕ) → placement setup then p ≡ final → LogSays setup then p (Idle final)
  log_then final placed = record {
    past = log.past ++ g ∷ [];
    now = [];
    later = log.later;
    grafts = grafts_are setup before p q k t stage log ∙ sym (append_assoc log.past (g ∷ []) log.later);
    are_behind = all_join (IsBehind setup then) log.past (g ∷ [])
        (all_map (IsBehind setup before) (IsBehind setup then) log.past (λ x. behind_then setup before p k outcome q x log.goes_on.ordered) log.are_behind)
        (record { begun = (let at_work = log.goes_on.begun in omega (arith, at_work)); over = inl ended_here }, tt);
    goes_on = refl;
    wait = wait_then;
    placed = placed;
  }

-- ---- a graft that was refused

module _ (setup : Setup) (before : OperatorPart) (p q k t : ℕ) (stage : Stage) (refusal : Refusal) (log : LogSays setup before p (Busy q k t stage)) where
  counts_alike : (x : ScriptGraft) → accepts (with_outcome setup before p k (Refused refusal)) x ≡ accepts before x
  counts_alike x = by_test (x.graft == k) refl where
    by_test : (b : Bool) → (x.graft == k) ≡ b → is_accepted (at before.outcome k (Some (Refused refusal)) x.graft) ≡ is_accepted (before.outcome x.graft)
    by_test true is =
        let same : x.graft ≡ k = grind (arith, nat_tests) in
        let a : at before.outcome k (Some (Refused refusal)) x.graft ≡ Some (Refused refusal) = grind (arith, nat_tests) in
        let b : before.outcome x.graft ≡ None = ap before.outcome same ∙ log.goes_on.unended in
        ap is_accepted a ∙ sym (ap is_accepted b)
    by_test false is = ap is_accepted (let a : at before.outcome k (Some (Refused refusal)) x.graft ≡ before.outcome x.graft = grind (arith, nat_tests) in a)

  pub refused_log : LogSays setup (with_outcome setup before p k (Refused refusal)) p (Idle q)
  refused_log = log_then setup before p q k t stage (Refused refusal) log q
      (placed_alike setup before (with_outcome setup before p k (Refused refusal)) p
      (all_of (CountsAlike setup before (with_outcome setup before p k (Refused refusal)))
      (grafts_of setup p) (λ x. record { accepted = counts_alike x; target = λ is. refl }))
      ∙ log.placed)

-- ---- a graft that succeeded

module _ (setup : Setup) (before : OperatorPart) (p q k t : ℕ) (stage : Stage) (log : LogSays setup before p (Busy q k t stage)) where
  abbrev graft : ScriptGraft
  graft = g setup before p q k t stage Accepted log

  abbrev noted : OperatorPart
  noted = with_outcome setup before p k Accepted

  pub accepted_log : LogSays setup noted p (Idle t)
  accepted_log = log_then setup before p q k t stage Accepted log t
      (placed_last setup noted p t log.past log.later graft (grafts_are setup before p q k t stage log)
      (let a : accepts noted graft ≡ true = grind (arith, nat_tests) in a)
      (none_later setup before p q k t stage Accepted log) log.goes_on.aims)
