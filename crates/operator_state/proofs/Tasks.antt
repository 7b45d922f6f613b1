-- Tasks before and behind an index.
use Rattle.std.proofs.Common.{◌≡◌, ℕ, zero, suc, true, false, cond, ◌||◌, List, [], ◌∷◌, ◌++◌, length}
use Rattle.std.proofs.Common.{take, drop, filter, Some, refl, sym, ap, ◌∙◌, inl, inr, arith}
use Rattle.std.specs.Prelude.{◌≢◌, slice_get, slice_set, not, if◌then◌else◌}
use Rattle.std.specs.List.{list_any, AllByRecursion}
use Rattle.operator_state.specs.declared.groups.Task.{Task}
use Rattle.operator_state.specs.Tasks.{task_issued, unissued}
use Rattle.operator_state.proofs.Lists.{by_test}

skips : (task : Task) (tasks : List Task) → task.issued ≡ true → unissued (task ∷ tasks) ≡ unissued tasks
skips task tasks e = ap (λ b. if b then unissued tasks else task ∷ unissued tasks) e

keeps : (task : Task) (tasks : List Task) → task.issued ≡ false → unissued (task ∷ tasks) ≡ task ∷ unissued tasks
keeps task tasks e = ap (λ b. if b then unissued tasks else task ∷ unissued tasks) e

-- what is so behind a task is so with it
alike : (task : Task) (one other more : List Task) → unissued one ≡ unissued other ++ more → unissued (task ∷ one) ≡ unissued (task ∷ other) ++ more
alike task one other more e = elim (by_test task.issued) [
  | inl f ↦ skips task one f ∙ e ∙ sym (ap (λ ts. ts ++ more) (skips task other f))
  | inr f ↦ keeps task one f ∙ ap (λ ts. task ∷ ts) e ∙ sym (ap (λ ts. ts ++ more) (keeps task other f))
]

alike_too : (task : Task) (one other : List Task) → unissued one ≡ unissued other → unissued (task ∷ one) ≡ unissued (task ∷ other)
alike_too task one other e = elim (by_test task.issued) [
  | inl f ↦ skips task one f ∙ e ∙ sym (skips task other f)
  | inr f ↦ keeps task one f ∙ ap (λ ts. task ∷ ts) e ∙ sym (keeps task other f)
]

pub split_at : (tasks : List Task) (i : ℕ) (task : Task) → slice_get tasks i ≡ Some task → task.issued ≡ false
    → unissued tasks ≡ unissued (take i tasks) ++ task ∷ unissued (drop (suc i) tasks)
split_at [] i task e waits = absurd cc
split_at (t ∷ tasks) zero task e waits =
    let same : t ≡ task = cc in
    keeps t tasks (ap (λ (x : Task). x.issued) same ∙ waits) ∙ ap (λ (x : Task). x ∷ unissued tasks) same
split_at (t ∷ tasks) (suc i) task e waits = alike t tasks (take i tasks) (task ∷ unissued (drop (suc i) tasks)) (split_at tasks i task e waits)

pub split_done : (tasks : List Task) (i : ℕ) (task : Task) → slice_get tasks i ≡ Some task
    → unissued (slice_set tasks i (task_issued task)) ≡ unissued (take i tasks) ++ unissued (drop (suc i) tasks)
split_done [] i task e = absurd cc
split_done (t ∷ tasks) zero task e = refl
split_done (t ∷ tasks) (suc i) task e =
    alike t (slice_set tasks i (task_issued task)) (take i tasks) (unissued (drop (suc i) tasks)) (split_done tasks i task e)

pub before_done : (tasks : List Task) (i : ℕ) (task : Task) → slice_get tasks i ≡ Some task
    → unissued (take (suc i) (slice_set tasks i (task_issued task))) ≡ unissued (take i tasks)
before_done [] i task e = absurd cc
before_done (t ∷ tasks) zero task e = refl
before_done (t ∷ tasks) (suc i) task e = alike_too t (take (suc i) (slice_set tasks i (task_issued task))) (take i tasks) (before_done tasks i task e)

pub before_more : (tasks : List Task) (i : ℕ) (task : Task) → slice_get tasks i ≡ Some task → task.issued ≡ false
    → unissued (take (suc i) tasks) ≡ unissued (take i tasks) ++ task ∷ []
before_more [] i task e waits = absurd cc
before_more (t ∷ tasks) zero task e waits =
    let same : t ≡ task = cc in
    keeps t [] (ap (λ (x : Task). x.issued) same ∙ waits) ∙ ap (λ (x : Task). x ∷ []) same
before_more (t ∷ tasks) (suc i) task e waits = alike t (take (suc i) tasks) (take i tasks) (task ∷ []) (before_more tasks i task e waits)

pub before_same : (tasks : List Task) (i : ℕ) (task : Task) → slice_get tasks i ≡ Some task → task.issued ≡ true
    → unissued (take (suc i) tasks) ≡ unissued (take i tasks)
before_same [] i task e done_is = absurd cc
before_same (t ∷ tasks) zero task e done_is = let same : t ≡ task = cc in skips t [] (ap (λ (x : Task). x.issued) same ∙ done_is)
before_same (t ∷ tasks) (suc i) task e done_is = alike_too t (take (suc i) tasks) (take i tasks) (before_same tasks i task e done_is)

pub all_taken : (tasks : List Task) (n : ℕ) → length tasks ≡ n → unissued (take n tasks) ≡ unissued tasks
all_taken [] zero e = refl
all_taken [] (suc n) e = refl
all_taken (t ∷ tasks) zero e = absurd (omega arith)
all_taken (t ∷ tasks) (suc n) e = alike_too t (take n tasks) tasks (all_taken tasks n (omega arith))

pub kept_alike : (tasks : List Task) → unissued (filter (λ task. not task.issued) tasks) ≡ unissued tasks
kept_alike [] = refl
kept_alike (t ∷ tasks) = elim (by_test t.issued) [
  | inl f ↦ ap (λ b. unissued (cond (not b) (t ∷ filter (λ task. not task.issued) tasks) (filter (λ task. not task.issued) tasks))) f
      ∙ kept_alike tasks ∙ sym (skips t tasks f)
  | inr f ↦ ap (λ b. unissued (cond (not b) (t ∷ filter (λ task. not task.issued) tasks) (filter (λ task. not task.issued) tasks))) f
      ∙ alike_too t (filter (λ task. not task.issued) tasks) tasks (kept_alike tasks)
]

-- some task is unissued exactly where there are unissued tasks
pub any_unissued : (tasks : List Task) → list_any (λ task. not task.issued) tasks ≡ true → unissued tasks ≢ []
any_unissued [] e none = absurd cc
any_unissued (t ∷ tasks) e none = elim (by_test t.issued) [
  | inl f ↦ any_unissued tasks (sym (ap (λ b. not b || list_any (λ task. not task.issued) tasks) f) ∙ e) (sym (skips t tasks f) ∙ none)
  | inr f ↦ absurd (let g : t ∷ unissued tasks ≡ [] = sym (keeps t tasks f) ∙ none in cc)
]

pub none_unissued : (tasks : List Task) → list_any (λ task. not task.issued) tasks ≡ false → unissued tasks ≡ []
none_unissued [] e = refl
none_unissued (t ∷ tasks) e = elim (by_test t.issued) [
  | inl f ↦ skips t tasks f ∙ none_unissued tasks (sym (ap (λ b. not b || list_any (λ task. not task.issued) tasks) f) ∙ e)
  | inr f ↦ absurd (let g : true ≡ false = sym (ap (λ b. not b || list_any (λ task. not task.issued) tasks) f) ∙ e in cc)
]

-- tasks of which none was issued
pub all_unissued : (tasks : List Task) → AllByRecursion (λ task. task.issued ≡ false) tasks → unissued tasks ≡ tasks
all_unissued [] all = refl
all_unissued (t ∷ tasks) all = keeps t tasks all.0 ∙ ap (λ ts. t ∷ ts) (all_unissued tasks all.1)
