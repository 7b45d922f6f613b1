-- The first of pending things, and the lowest of numbers.
use Rattle.std.specs.Prelude.{ℕ, ◌≡◌, ◌≢◌, ◌≤◌, ◌⊎◌, Option, Some, None}
use Rattle.std.specs.declared.cmp.Ordering.TheVariants.{Greater}
use Rattle.graft_steps.specs.declared.rest.Pending.{Pending}
use Rattle.graft_steps.specs.Pendings.{pending_cmp}

-- The first, by kind and numbers, of the pending things for which the property holds; none exactly if it holds for nothing.
abbrev pub IsFirstOf : (Pending → Type 0) → Option Pending → Type 0
IsFirstOf Is None = (x : Pending) → ¬ Is x
IsFirstOf Is (Some first) = Is first × ((x : Pending) → Is x → pending_cmp first x ≢ Greater)

-- the lowest of the numbers for which the property holds, if there is one
abbrev pub IsLowestOf : (ℕ → Type 0) → Option ℕ → Type 0
IsLowestOf Is None = (n : ℕ) → ¬ Is n
IsLowestOf Is (Some lowest) = Is lowest × ((n : ℕ) → Is n → lowest ≤ n)

-- the thing is one of the two answers
abbrev pub IsEither : Option Pending → Option Pending → Pending → Type 0
IsEither one other x = (one ≡ Some x) ⊎ (other ≡ Some x)
