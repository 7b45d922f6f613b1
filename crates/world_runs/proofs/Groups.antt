-- The group at work is counted by the entries that begin groups.
use Rattle.std.proofs.Common.{◌≡◌, ℕ, ◌+◌, ◌==◌, true, false, List, [], ◌∷◌, length, filter, Option, ap, ◌∙◌, inl, inr, arith}
use Rattle.std.proofs.lemmas.Bool.Decides.{nat_tests}
use Rattle.ring_net.specs.declared.entry.JournalEntry.{JournalEntry}
use Rattle.journal_merge.specs.Merges.{entries_by}
use Rattle.journal_merge.proofs.Orders.{equal_or_not, by_here, by_else}
use Rattle.graft_model.specs.Setups.{Setup}
use Rattle.graft_model.specs.Parts.{OperatorPart, World}
use Rattle.graft_model.specs.First.{first_world}
use Rattle.graft_model.specs.OperatorRows.{OperatorTaken, OperatorSent}
use Rattle.graft_model.specs.declared.event.OperatorEvent.{OperatorEvent}
use Rattle.graft_model.specs.declared.event.OperatorEvent.TheVariants.{Order, Note, Go}
use Rattle.graft_model.specs.Steps.{Event, ByRouter, ByFar, ByOperator, operator_row, Step, Run}
use Rattle.graft_laws.proofs.Moves.{router_moves, far_moves, operator_moves}
use Rattle.graft_actors.specs.Laws.{IsEntryOf, AreEntriesOf}
use Rattle.graft_model.proofs.GoAlone.{router_kind, far_kind}
use Rattle.world_runs.specs.Marks.{operator_number, is_go}

-- ---- counts

abbrev count : Setup → List JournalEntry → ℕ
count setup entries = length (filter is_go (entries_by (operator_number setup) entries))

not_counted : (setup : Setup) (e : JournalEntry) (es : List JournalEntry) → is_go e ≡ false → count setup (e ∷ es) ≡ count setup es
not_counted setup e es other = elim (equal_or_not e.actor (operator_number setup)) [
  | inl here ↦ ap (λ (xs : List JournalEntry). length (filter is_go xs)) (by_here (operator_number setup) e es here)
      ∙ left_out (entries_by (operator_number setup) es)
  | inr ne ↦ ap (λ (xs : List JournalEntry). length (filter is_go xs)) (by_else (operator_number setup) e es ne)
]
  where
    left_out : (xs : List JournalEntry) → length (filter is_go (e ∷ xs)) ≡ length (filter is_go xs)
    left_out xs = grind (arith, nat_tests)

one_counted : (setup : Setup) (e : JournalEntry) (es : List JournalEntry) → e.actor ≡ operator_number setup → is_go e ≡ true
    → count setup (e ∷ es) ≡ count setup es + 1
one_counted setup e es here go = ap (λ (xs : List JournalEntry). length (filter is_go xs)) (by_here (operator_number setup) e es here)
    ∙ put_in (entries_by (operator_number setup) es)
  where
    put_in : (xs : List JournalEntry) → length (filter is_go (e ∷ xs)) ≡ length (filter is_go xs) + 1
    put_in xs = grind (arith, nat_tests)

-- ---- runs

-- the group after an event, with the entries of those that follow
abbrev Counts : Setup → World → World → JournalEntry → Type 0
Counts setup w v entry = (es : List JournalEntry) → v.operator.group + count setup es ≡ w.operator.group + count setup (entry ∷ es)

same_group : (setup : Setup) (w v : World) (entry : JournalEntry) → v.operator.group ≡ w.operator.group → is_go entry ≡ false → Counts setup w v entry
same_group setup w v entry same other es = omega (arith, same, not_counted setup entry es other)

by_operator : (setup : Setup) (event : OperatorEvent) (before after : OperatorPart) (taken : Option OperatorTaken) (sent : List OperatorSent)
    → operator_row setup event before taken sent after → (entry : JournalEntry) → entry.actor ≡ operator_number setup
    → IsEntryOf setup (ByOperator event) entry → (es : List JournalEntry) → after.group + count setup es ≡ before.group + count setup (entry ∷ es)
by_operator setup (Order step number) before after taken sent (inl row) entry here is es =
    let same : after.group ≡ before.group = ap (λ (part : OperatorPart). part.group) row.effect in
    let other : is_go entry ≡ false = ap (λ (k : ℕ). k == 26) is.coded.kind in
    omega (arith, same, not_counted setup entry es other)
by_operator setup (Order step number) before after taken sent (inr row) entry here is es =
    let same : after.group ≡ before.group = ap (λ (part : OperatorPart). part.group) row.effect in
    let other : is_go entry ≡ false = ap (λ (k : ℕ). k == 26) is.coded.kind in
    omega (arith, same, not_counted setup entry es other)
by_operator setup (Note router) before after taken sent row entry here is es =
    let same : after.group ≡ before.group = ap (λ (part : OperatorPart). part.group) row.effect in
    let other : is_go entry ≡ false = ap (λ (k : ℕ). k == 26) is.coded.kind in
    omega (arith, same, not_counted setup entry es other)
by_operator setup Go before after taken sent row entry here is es =
    let more : after.group ≡ before.group + 1 = ap (λ (part : OperatorPart). part.group) row.effect in
    let go : is_go entry ≡ true = ap (λ (k : ℕ). k == 26) is.coded.kind in
    omega (arith, more, one_counted setup entry es here go)

step_counts : (setup : Setup) (event : Event) (w v : World) (entry : JournalEntry) → Step setup event w v → IsEntryOf setup event entry → Counts setup w v entry
step_counts setup (ByRouter r event) w v entry step is = same_group setup w v entry
    (ap (λ (part : OperatorPart). part.group) (router_moves setup r event w v step).operator) (ap (λ (k : ℕ). k == 26) is.coded.kind ∙ router_kind event)
step_counts setup (ByFar p event) w v entry step is = same_group setup w v entry
    (ap (λ (part : OperatorPart). part.group) (far_moves setup p event w v step).operator) (ap (λ (k : ℕ). k == 26) is.coded.kind ∙ far_kind event)
step_counts setup (ByOperator event) w v entry step is = λ es.
    ap (λ (part : OperatorPart). part.group + count setup es) (operator_moves setup event w v step).operator
    ∙ by_operator setup event w.operator step.part step.taken step.sent step.row entry is.maker is es

run_counts : (setup : Setup) (events : List Event) (entries : List JournalEntry) (w v : World) → AreEntriesOf setup events entries
    → Run setup w events v → v.operator.group ≡ w.operator.group + count setup entries
run_counts setup [] [] w v are is = let same : v.operator.group ≡ w.operator.group = ap (λ (u : World). u.operator.group) is in omega (arith, same)
run_counts setup [] (entry ∷ entries) w v are is = absurd are
run_counts setup (event ∷ events) [] w v are is = absurd are
run_counts setup (event ∷ events) (entry ∷ entries) w v are (u, step, run) = run_counts setup events entries u v are.1 run
    ∙ step_counts setup event w u entry step are.0 entries

pub groups_counted : (setup : Setup) (events : List Event) (entries : List JournalEntry) (w : World) → AreEntriesOf setup events entries
    → Run setup (first_world setup) events w → w.operator.group ≡ count setup entries
groups_counted setup events entries w are run =
    let all : w.operator.group ≡ 0 + count setup entries = run_counts setup events entries (first_world setup) w are run in omega (arith, all)
