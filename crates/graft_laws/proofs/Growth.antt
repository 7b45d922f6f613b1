-- What is in the log stays there, and where a graft of a peering stands in it.
use Rattle.std.proofs.Common.{◌≡◌, ◌==◌, cond, ℕ, ◌<◌, Bool, true, false, List, ◌∷◌, ◌++◌, Option, Some, None, sym, ap, ◌∙◌, subst, arith, inl, inr}
use Rattle.std.specs.Prelude.{◌≢◌, ◌⊎◌}
use Rattle.std.specs.List.{AllByRecursion}
use Rattle.graft_model.specs.Points.{at}
use Rattle.graft_model.specs.Setups.{Setup, ScriptGraft}
use Rattle.graft_model.specs.Parts.{OperatorPart, World}
use Rattle.graft_model.specs.Placements.{target_in}
use Rattle.graft_model.specs.OperatorRows.{OperatorTaken, OperatorSent}
use Rattle.graft_model.specs.declared.event.OperatorEvent.{OperatorEvent}
use Rattle.graft_model.specs.declared.event.OperatorEvent.TheVariants.{Order, Note, Go}
use Rattle.graft_model.specs.Steps.{Event, ByRouter, ByFar, ByOperator, operator_row, Step}
use Rattle.graft_laws.specs.Phases.{Stage, Idle, Busy}
use Rattle.graft_laws.specs.Log.{grafts_of, is_graft_on, HasEnded, AwaitsOrder, IsBehind, LogSays}
use Rattle.graft_laws.proofs.Lists.{all_map, all_join}
use Rattle.graft_laws.proofs.Moves.{router_moves, far_moves, operator_moves}
use Rattle.graft_model.proofs.Numbers.{index_of_graft}
use Rattle.graft_laws.proofs.Numbers.{before_below, own_graft, at_number}
use Rattle.graft_laws.proofs.Logs.{grafts_are}

-- ---- the log grows

-- what was ordered and what has an outcome stays so
pub record LogGrows (before after : OperatorPart) : Type 0 where
  pub source : (k : ℕ) → before.source k ≢ None → after.source k ≢ None
  pub outcome : (k : ℕ) → before.outcome k ≢ None → after.outcome k ≢ None

same_grows : (before after : OperatorPart) → after ≡ before → LogGrows before after
same_grows before after e = record {
  source = λ k some none. some (ap (λ (x : OperatorPart). x.source k) (sym e) ∙ none);
  outcome = λ k some none. some (ap (λ (x : OperatorPart). x.outcome k) (sym e) ∙ none);
}

some_stays : {A : Type 0} (f : ℕ → Option A) (j k : ℕ) (x : A) → f k ≢ None → at f j (Some x) k ≢ None
some_stays f j k x some none = by_test (k == j) none where
  by_test : (b : Bool) → cond b (Some x) (f k) ≡ None → ⊥
  by_test true e = absurd cc
  by_test false e = some e

pub row_grows : (setup : Setup) (event : OperatorEvent) (before after : OperatorPart) (taken : Option OperatorTaken) (sent : List OperatorSent)
    → operator_row setup event before taken sent after → LogGrows before after
row_grows setup (Order n k) before after taken sent (inl row) =
    subst (λ (x : OperatorPart). LogGrows before x) (sym row.effect) (record { source = λ j some. some; outcome = λ j some. some })
row_grows setup (Order n k) before after taken sent (inr row) = subst (λ (x : OperatorPart). LogGrows before x)
    (sym row.effect) (record { source = λ j some. some_stays before.source row.graft.graft j _ some; outcome = λ j some. some })
row_grows setup (Note r) before after taken sent row = subst (λ (x : OperatorPart). LogGrows before x) (sym row.effect)
    (record { source = λ k some. some; outcome = λ k some. some_stays before.outcome row.report.graft k row.report.outcome some })
row_grows setup Go before after taken sent row =
    subst (λ (x : OperatorPart). LogGrows before x) (sym row.effect) (record { source = λ k some. some; outcome = λ k some. some })

pub log_grows : (setup : Setup) (event : Event) (w v : World) → Step setup event w v → LogGrows w.operator v.operator
log_grows setup (ByRouter r event) w v x = same_grows w.operator v.operator ((router_moves setup r event w v x).operator)
log_grows setup (ByFar p event) w v x = same_grows w.operator v.operator ((far_moves setup p event w v x).operator)
log_grows setup (ByOperator event) w v x = subst (λ (o : OperatorPart). LogGrows w.operator o)
    (sym ((operator_moves setup event w v x).operator)) (row_grows setup event w.operator x.part x.taken x.sent x.row)

-- ---- a graft of a peering, by its number

abbrev EndsBefore : OperatorPart → ℕ → ScriptGraft → Type 0
EndsBefore operator k g = (g.graft < k) ⊎ (operator.outcome g.graft ≡ None)

-- A graft that is under way has a higher number than those of its peering that have their outcomes.
pub past_below : (setup : Setup) (operator : OperatorPart) (p q k t j : ℕ) (stage : Stage) → LogSays setup operator p (Busy q k t stage)
    → is_graft_on setup p j ≡ true → operator.outcome j ≢ None → j < k
past_below setup operator p q k t j stage log own ended =
    of (at_number setup p j (EndsBefore operator k) (subst (λ (x : List ScriptGraft). AllByRecursion (EndsBefore operator k) x) (sym is) all) own)
  where
    g : ScriptGraft
    g = record { graft = k; peering = p; step = log.goes_on.step }

    is : grafts_of setup p ≡ log.past ++ g ∷ log.later
    is = grafts_are setup operator p q k t stage log

    all : AllByRecursion (EndsBefore operator k) (log.past ++ g ∷ log.later)
    all = all_join (EndsBefore operator k) log.past (g ∷ log.later)
        (all_map (λ (x : ScriptGraft). x.graft < k) (EndsBefore operator k) log.past (λ x l. inl l) (before_below setup p log.past log.later g is))
        (inr log.goes_on.unended, all_map (AwaitsOrder operator) (EndsBefore operator k) log.later (λ x y. inr y.unended) log.wait)

    of : (x : ScriptGraft) × (x.graft ≡ j) × EndsBefore operator k x → j < k
    of (x, same, inl l) = subst (λ (y : ℕ). y < k) same l
    of (x, same, inr none) = absurd (ended (ap operator.outcome (sym same) ∙ none))

abbrev EndedOrWaits : OperatorPart → ScriptGraft → Type 0
EndedOrWaits operator g = HasEnded operator g ⊎ AwaitsOrder operator g

behind_or_waits : (setup : Setup) (operator : OperatorPart) (g : ScriptGraft)
    → HasEnded operator g ⊎ (AwaitsOrder operator g × (target_in setup operator g ≡ None)) → EndedOrWaits operator g
behind_or_waits setup operator g (inl ended) = inl ended
behind_or_waits setup operator g (inr (waits, none)) = inr waits

all_over : (setup : Setup) (operator : OperatorPart) (p q : ℕ) → LogSays setup operator p (Idle q) → AllByRecursion (EndedOrWaits operator) (grafts_of setup p)
all_over setup operator p q log =
    let Either : ScriptGraft → Type 0 = EndedOrWaits operator in
    subst (λ (x : List ScriptGraft). AllByRecursion Either x) (sym (log.grafts ∙ ap (λ (x : List ScriptGraft). log.past ++ (x ++ log.later)) log.goes_on))
    (all_join Either log.past log.later (all_map (IsBehind setup operator) Either log.past (λ g b. behind_or_waits setup operator g b.over) log.are_behind)
    (all_map (AwaitsOrder operator) Either log.later (λ g x. inr x) log.wait))

-- Where no graft is under way, one that was ordered has its outcome.
pub idle_ended : (setup : Setup) (operator : OperatorPart) (p q k : ℕ) → LogSays setup operator p (Idle q) → is_graft_on setup p k ≡ true
    → operator.source k ≢ None → operator.outcome k ≢ None
idle_ended setup operator p q k log own ordered = of (at_number setup p k (EndedOrWaits operator) (all_over setup operator p q log) own) where
  of : (g : ScriptGraft) × (g.graft ≡ k) × EndedOrWaits operator g → operator.outcome k ≢ None
  of (g, same, inl e) = subst (λ (x : ℕ). operator.outcome x ≢ None) same e.ended
  of (g, same, inr x) = absurd (ordered (ap operator.source (sym same) ∙ x.unordered))

-- numbers count from 1
pub above_zero : (setup : Setup) (p k : ℕ) → is_graft_on setup p k ≡ true → 0 < k
above_zero setup p k own = let f = own_graft setup p k own in let index = index_of_graft setup f.0.graft f.0 f.2.0 in omega (arith, index.1, f.1)
