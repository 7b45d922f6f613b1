-- The operator's log of a peering's grafts, through the operator's events.
use Rattle.std.proofs.Common.{◌≡◌, ℕ, ◌≤◌, true, false, List, ◌∷◌, ◌++◌, Some, None, refl, sym, ap, ◌∙◌, subst, arith, ◌⊎◌, inl, inr}
use Rattle.std.specs.Prelude.{slice_get}
use Rattle.std.specs.List.{AllByRecursion}
use Rattle.graft_model.specs.Setups.{Setup, ScriptGraft, group_of, graft_at}
use Rattle.graft_model.specs.Parts.{Gift, OperatorPart}
use Rattle.graft_model.specs.Placements.{is_accepted, target_by, target_in, placement}
use Rattle.graft_laws.specs.Phases.{Stage, Phase, Idle, Busy}
use Rattle.graft_laws.specs.Log.{grafts_of, is_graft_on, HasEnded, AwaitsOrder, IsBehind, GoesOnIn, LogSays}
use Rattle.graft_laws.proofs.Lists.{all_map, all_both, all_front, all_back, all_join}
use Rattle.graft_laws.proofs.Numbers.{IsGraftOf, all_of_peering, is_own}
use Rattle.graft_laws.proofs.Placements.{CountsAlike, placed_alike}
use Rattle.graft_laws.proofs.Others.{KeepsLog, SameLog}

-- ---- whose the grafts are

pub own_known : (setup : Setup) (p k : ℕ) {step : ℕ} → graft_at setup k ≡ Some (record { graft = k; peering = p; step = step }) → is_graft_on setup p k ≡ true
own_known setup p k {step = step} known = is_own setup p (record { graft = k; peering = p; step = step }) (known, refl)

-- the grafts of the log's three parts are the peering's own
log_own : (setup : Setup) (operator : OperatorPart) (p : ℕ) (phase : Phase) (log : LogSays setup operator p phase)
    → AllByRecursion (IsGraftOf setup p) (log.past ++ (log.now ++ log.later))
log_own setup operator p phase log = subst (λ (x : List ScriptGraft). AllByRecursion (IsGraftOf setup p) x) log.grafts (all_of_peering setup p)

-- the graft that is under way stands between those behind it and those that wait
pub grafts_are : (setup : Setup) (operator : OperatorPart) (p q k t : ℕ) (stage : Stage) (log : LogSays setup operator p (Busy q k t stage))
    → grafts_of setup p ≡ log.past ++ record { graft = k; peering = p; step = log.goes_on.step } ∷ log.later
grafts_are setup operator p q k t stage log = log.grafts ∙ ap (λ (x : List ScriptGraft). log.past ++ (x ++ log.later)) log.goes_on.is

-- ---- of which grafts the log has something

-- the graft's group has begun
abbrev HasBegun : Setup → OperatorPart → ScriptGraft → Type 0
HasBegun setup operator g = group_of setup g.step ≤ operator.group

all_begun : (setup : Setup) (operator : OperatorPart) (p : ℕ) (phase : Phase) (now : List ScriptGraft) → GoesOnIn setup operator p phase now
    → AllByRecursion (HasBegun setup operator) now
all_begun setup operator p (Idle q) now none = subst (λ (x : List ScriptGraft). AllByRecursion (HasBegun setup operator) x) (sym none) tt
all_begun setup operator p (Busy q k t stage) now on =
    subst (λ (x : List ScriptGraft). AllByRecursion (HasBegun setup operator) x) (sym on.is) ((let at_work = on.begun in omega (arith, at_work)), tt)

abbrev BegunOrWaits : Setup → OperatorPart → ScriptGraft → Type 0
BegunOrWaits setup operator g = HasBegun setup operator g ⊎ AwaitsOrder operator g

-- each graft of a peering is of a group that has begun, or waits
begun_or_waits : (setup : Setup) (operator : OperatorPart) (p : ℕ) (phase : Phase) → LogSays setup operator p phase
    → AllByRecursion (BegunOrWaits setup operator) (grafts_of setup p)
begun_or_waits setup operator p phase log =
    let Either : ScriptGraft → Type 0 = BegunOrWaits setup operator in
    subst (λ (x : List ScriptGraft). AllByRecursion Either x) (sym log.grafts)
    (all_join Either log.past (log.now ++ log.later) (all_map (IsBehind setup operator) Either log.past (λ g b. inl b.begun) log.are_behind)
    (all_join Either log.now log.later (all_map (HasBegun setup operator) Either log.now (λ g b. inl b) (all_begun setup operator p phase log.now log.goes_on))
    (all_map (AwaitsOrder operator) Either log.later (λ g x. inr x) log.wait)))

-- ---- nothing of the peering changes

-- Where a graft is under way, the same group is at work.
abbrev pub SameGroup : Phase → OperatorPart → OperatorPart → Type 0
SameGroup (Idle q) before after = Unit {0}
SameGroup (Busy q k t stage) before after = after.group ≡ before.group

module _ (setup : Setup) (p : ℕ) (before after : OperatorPart) (same : KeepsLog setup p before after) where
  target_still : (g : ScriptGraft) → IsGraftOf setup p g → HasBegun setup before g → target_in setup after g ≡ target_in setup before g
  target_still g own begun = ap (λ (gift : Gift). target_by (slice_get setup.steps g.step) gift) (same.given g own begun)

  begun_still : (g : ScriptGraft) → HasBegun setup before g → HasBegun setup after g
  begun_still g begun = let le = same.group in omega (arith, begun, le)

  ended_still : (g : ScriptGraft) → IsGraftOf setup p g → HasEnded before g → HasEnded after g
  ended_still g own was = record {
    ordered = λ none. was.ordered (sym (same.source g.graft (is_own setup p g own)) ∙ none);
    ended = λ none. was.ended (sym (same.outcome g.graft (is_own setup p g own)) ∙ none);
  }

  waits_still : (g : ScriptGraft) → IsGraftOf setup p g → AwaitsOrder before g → AwaitsOrder after g
  waits_still g own was =
      record { unordered = same.source g.graft (is_own setup p g own) ∙ was.unordered; unended = same.outcome g.graft (is_own setup p g own) ∙ was.unended }

  behind_still : (g : ScriptGraft) → IsGraftOf setup p g → IsBehind setup before g → IsBehind setup after g
  behind_still g own was = record { begun = begun_still g was.begun; over = over was.over } where
    over : HasEnded before g ⊎ (AwaitsOrder before g × (target_in setup before g ≡ None))
        → HasEnded after g ⊎ (AwaitsOrder after g × (target_in setup after g ≡ None))
    over (inl ended) = inl (ended_still g own ended)
    over (inr (waits, none)) = inr (waits_still g own waits, target_still g own was.begun ∙ none)

  goes_on_still : (phase : Phase) (now : List ScriptGraft) → SameGroup phase before after → GoesOnIn setup before p phase now → GoesOnIn setup after p phase now
  goes_on_still (Idle q) now group none = none
  goes_on_still (Busy q k t stage) now group was =
      let g : ScriptGraft = record { graft = k; peering = p; step = was.step } in
      let mine : is_graft_on setup p k ≡ true = own_known setup p k was.known in
      let at_work = was.begun in
      record {
        step = was.step;
        is = was.is;
        known = was.known;
        begun = at_work ∙ sym group;
        aims = target_still g (was.known, refl) (omega (arith, at_work)) ∙ was.aims;
        ordered = same.source k mine ∙ was.ordered;
        unended = same.outcome k mine ∙ was.unended;
      }

  alike : (g : ScriptGraft) → IsGraftOf setup p g → HasBegun setup before g ⊎ AwaitsOrder before g → CountsAlike setup before after g
  alike g own (inl begun) = record { accepted = ap is_accepted (same.outcome g.graft (is_own setup p g own)); target = λ accepted. target_still g own begun }
  alike g own (inr waits) = record {
    accepted = ap is_accepted (same.outcome g.graft (is_own setup p g own));
    target = λ accepted. (let e : true ≡ false = sym accepted ∙ ap is_accepted waits.unended in absurd cc);
  }

  pub placement_same : (phase : Phase) → LogSays setup before p phase → placement setup after p ≡ placement setup before p
  placement_same phase log = placed_alike setup before after p
      (all_both (IsGraftOf setup p) (BegunOrWaits setup before) (CountsAlike setup before after)
      (grafts_of setup p) alike (all_of_peering setup p) (begun_or_waits setup before p phase log))

  pub log_kept : (phase : Phase) → SameGroup phase before after → LogSays setup before p phase → LogSays setup after p phase
  log_kept phase group log =
      let own : AllByRecursion (IsGraftOf setup p) (log.past ++ (log.now ++ log.later)) = log_own setup before p phase log in
      let own_later : AllByRecursion (IsGraftOf setup p) log.later =
      all_back (IsGraftOf setup p) log.now log.later (all_back (IsGraftOf setup p) log.past (log.now ++ log.later) own) in
      record {
        past = log.past;
        now = log.now;
        later = log.later;
        grafts = log.grafts;
        are_behind = all_both (IsGraftOf setup p) (IsBehind setup before) (IsBehind setup after) log.past behind_still
            (all_front (IsGraftOf setup p) log.past (log.now ++ log.later) own) log.are_behind;
        goes_on = goes_on_still phase log.now group log.goes_on;
        wait = all_both (IsGraftOf setup p) (AwaitsOrder before) (AwaitsOrder after) log.later waits_still own_later log.wait;
        placed = placement_same phase log ∙ log.placed;
      }

pub log_still : (setup : Setup) (p : ℕ) (before after : OperatorPart) (phase : Phase) → SameLog setup p before after → LogSays setup before p phase
    → LogSays setup after p phase
log_still setup p before after phase same = log_kept setup p before after same.kept phase (by_phase phase) where
  by_phase : (x : Phase) → SameGroup x before after
  by_phase (Idle q) = tt
  by_phase (Busy q k t stage) = same.group

-- the phase moves on, and the graft stays the same
pub log_on : (setup : Setup) (operator : OperatorPart) (p q k t : ℕ) (stage next : Stage) → LogSays setup operator p (Busy q k t stage)
    → LogSays setup operator p (Busy q k t next)
log_on setup operator p q k t stage next log = record {
  past = log.past;
  now = log.now;
  later = log.later;
  grafts = log.grafts;
  are_behind = log.are_behind;
  goes_on = log.goes_on;
  wait = log.wait;
  placed = log.placed;
}
