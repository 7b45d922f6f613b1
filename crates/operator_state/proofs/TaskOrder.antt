-- The order of tasks, and which of them there are.
use Rattle.std.proofs.Common.{◌≡◌, ℕ, ◌<◌, ◌==◌, ◌&&◌, Bool, true, false, List, [], ◌∷◌, ◌++◌, refl, sym, ap, ◌∙◌, inl, inr, arith}
use Rattle.std.specs.Prelude.{◌≢◌}
use Rattle.std.specs.List.{AllByRecursion}
use Rattle.std.proofs.lemmas.Bool.Decides.{nat_tests}
use Rattle.operator_state.specs.declared.groups.Task.{Task}
use Rattle.operator_state.specs.Tasks.{is_task, has_task}
use Rattle.operator_state.specs.Keeps.{Precedes, Rises}
use Rattle.operator_state.proofs.Lists.{by_test, all_append_left, all_append_right, all_append, all_map, none_passes}

both : (a b : Bool) → (a && b) ≡ true → (a ≡ true) × (b ≡ true)
both true true e = (refl, refl)
both true false e = absurd cc
both false b e = absurd cc

pub task_names : (n k : ℕ) (task : Task) → is_task n k task ≡ true → (task.step ≡ n) × (task.graft ≡ k)
task_names n k task e =
    let both_are = both (task.step == n) (task.graft == k) e in
    let step : (task.step == n) ≡ true = both_are.0 in
    let graft : (task.graft == k) ≡ true = both_are.1 in
    (grind (arith, nat_tests), grind (arith, nat_tests))

pub is_that_task : (n k : ℕ) (task : Task) → task.step ≡ n → task.graft ≡ k → is_task n k task ≡ true
is_that_task n k task step graft =
    let a : (task.step == n) ≡ true = grind (arith, nat_tests) in
    let b : (task.graft == k) ≡ true = grind (arith, nat_tests) in
    ap (λ x. x && (task.graft == k)) a ∙ b

pub is_other_step : (n k : ℕ) (task : Task) → task.step ≢ n → is_task n k task ≡ false
is_other_step n k task ne =
    let a : (task.step == n) ≡ false = grind (arith, nat_tests) in
    ap (λ x. x && (task.graft == k)) a

pub is_other_graft : (n k : ℕ) (task : Task) → task.graft ≢ k → is_task n k task ≡ false
is_other_graft n k task ne = elim (by_test (is_task n k task)) [
  | inl e ↦ absurd (ne (task_names n k task e).1)
  | inr e ↦ e
]

-- ---- tasks before and after one

module _ (xs : List Task) (x : Task) (ys : List Task) where
  pub follow : Rises (xs ++ x ∷ ys) → AllByRecursion (Precedes x) ys
  follow = after xs
    where
      after : (zs : List Task) → Rises (zs ++ x ∷ ys) → AllByRecursion (Precedes x) ys
      after [] rises = rises.0
      after (z ∷ zs) rises = after zs rises.1

  pub precede : Rises (xs ++ x ∷ ys) → AllByRecursion (λ task. Precedes task x) xs
  precede = before xs
    where
      before : (zs : List Task) → Rises (zs ++ x ∷ ys) → AllByRecursion (λ task. Precedes task x) zs
      before [] rises = tt
      before (z ∷ zs) rises = ((all_append_right (Precedes z) zs (x ∷ ys) rises.0).0, before zs rises.1)

  pub rises_without : Rises (xs ++ x ∷ ys) → Rises (xs ++ ys)
  rises_without = without xs
    where
      without : (zs : List Task) → Rises (zs ++ x ∷ ys) → Rises (zs ++ ys)
      without [] rises = rises.1
      without (z ∷ zs) rises = (
        all_append (Precedes z) zs ys (all_append_left (Precedes z) zs (x ∷ ys) rises.0) (all_append_right (Precedes z) zs (x ∷ ys) rises.0).1,
        without zs rises.1,
      )

  -- a task stands once
  pub once_in : Rises (xs ++ x ∷ ys) → has_task (xs ++ ys) x.step x.graft ≡ false
  once_in rises = none_passes (is_task x.step x.graft) (xs ++ ys) (all_append (λ task. is_task x.step x.graft task ≡ false) xs ys
      (all_map (λ task. Precedes task x) (λ task. is_task x.step x.graft task ≡ false) xs before (precede rises))
      (all_map (Precedes x) (λ task. is_task x.step x.graft task ≡ false) ys after (follow rises)))
    where
      before : (task : Task) → Precedes task x → is_task x.step x.graft task ≡ false
      before task p = elim (by_test (is_task x.step x.graft task)) [
        | inl e ↦ let names = task_names x.step x.graft task e in let l : task.graft < x.graft = p.graft names.0 in
            let same : task.graft ≡ x.graft = names.1 in absurd (omega arith)
        | inr e ↦ e
      ]

      after : (task : Task) → Precedes x task → is_task x.step x.graft task ≡ false
      after task p = elim (by_test (is_task x.step x.graft task)) [
        | inl e ↦ let names = task_names x.step x.graft task e in let l : x.graft < task.graft = p.graft (sym names.0) in
            let same : task.graft ≡ x.graft = names.1 in absurd (omega arith)
        | inr e ↦ e
      ]
