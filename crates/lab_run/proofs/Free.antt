-- A mark that isn't the last one tells that no session is stuck.
use Rattle.std.proofs.Common.{◌≡◌, ℕ, zero, suc, ◌+◌, ◌<◌, List, [], ◌∷◌, length, ap, subst, inl, inr, arith}
use Rattle.ring_net.specs.declared.entry.JournalEntry.{JournalEntry}
use Rattle.graft_model.specs.Setups.{Setup}
use Rattle.graft_model.specs.Parts.{World}
use Rattle.lab_report.specs.declared.lab.RunEnd.{RunEnd}
use Rattle.node_configs.specs.declared.budget.Budget.{Budget}
use Rattle.lab_run.specs.Ends.{NoneIsStuck, MarksName, HasMarks}

more_left : (next : List ℕ) (marks : List (List ℕ)) → next ∷ marks ≡ [] → ⊥
more_left next marks e = cc

module _ (setup : Setup) (journal : List JournalEntry) (world : ℕ → World) where
  here : (n : ℕ) → NoneIsStuck setup (world n) → NoneIsStuck setup (world (n + zero))
  here n free = let same : n ≡ n + zero = omega arith in subst (λ k. NoneIsStuck setup (world k)) same free

  later : (n i : ℕ) → NoneIsStuck setup (world (n + 1 + i)) → NoneIsStuck setup (world (n + suc i))
  later n i free = let same : n + 1 + i ≡ n + suc i = omega arith in subst (λ k. NoneIsStuck setup (world k)) same free

  -- at each mark before another one
  free_from : (n step rounds : ℕ) (budgets : List Budget) (marks : List (List ℕ)) (made : List ℕ) (end : RunEnd)
      → MarksName setup journal world n step rounds budgets marks made end
      → (i : ℕ) → i + 1 < length marks → NoneIsStuck setup (world (n + i))
  free_from n step rounds budgets [] made end names i more = absurd (omega arith)
  free_from n step rounds budgets (mark ∷ []) made end names i more = absurd (omega arith)
  free_from n step rounds [] (mark ∷ next ∷ marks) made end names i more = absurd names
  free_from n step rounds (budget ∷ []) (mark ∷ next ∷ marks) made end (inl on) zero more = here n on.0.0.free
  free_from n step rounds (budget ∷ []) (mark ∷ next ∷ marks) made end (inl on) (suc i) more =
      later n i (free_from (n + 1) step (rounds + 1) (budget ∷ []) (next ∷ marks) made end on.2 i (omega arith))
  free_from n step rounds (budget ∷ []) (mark ∷ next ∷ marks) made end (inr (inl quiet)) i more = absurd (more_left next marks quiet.1.0)
  free_from n step rounds (budget ∷ []) (mark ∷ next ∷ marks) made end (inr (inr ends)) i more = absurd (more_left next marks ends.1)
  free_from n step rounds (budget ∷ other ∷ budgets) (mark ∷ next ∷ marks) made end (inl on) zero more = here n on.0.0.free
  free_from n step rounds (budget ∷ other ∷ budgets) (mark ∷ next ∷ marks) made end (inl on) (suc i) more =
      later n i (free_from (n + 1) step (rounds + 1) (budget ∷ other ∷ budgets) (next ∷ marks) made end on.2 i (omega arith))
  free_from n step rounds (budget ∷ other ∷ budgets) (mark ∷ next ∷ marks) made end (inr (inl quiet)) zero more = here n quiet.0.0.free
  free_from n step rounds (budget ∷ other ∷ budgets) (mark ∷ next ∷ marks) made end (inr (inl quiet)) (suc i) more =
      let on = quiet.1.1 in
      later n i (free_from (n + 1) (step + 1) 0 (other ∷ budgets) (next ∷ marks) on.0 end on.2 i (omega arith))
  free_from n step rounds (budget ∷ other ∷ budgets) (mark ∷ next ∷ marks) made end (inr (inr ends)) i more = absurd (more_left next marks ends.1)

  -- behind each mark whose next one isn't the last
  pub free_behind : (budgets : List Budget) (all : List (List ℕ)) (made : List ℕ) (end : RunEnd) → HasMarks setup journal world budgets all made end
      → (k : ℕ) → k + 2 < length all → NoneIsStuck setup (world (k + 1))
  free_behind budgets all made end marks k more =
      let count : length all ≡ 1 + length marks.marks = omega (arith, ap (λ (ms : List (List ℕ)). length ms) marks.is) in
      let same : 1 + k ≡ k + 1 = omega arith in
      subst (λ n. NoneIsStuck setup (world n)) same (free_from 1 1 0 budgets marks.marks made end marks.name k (omega (arith, count, more)))
