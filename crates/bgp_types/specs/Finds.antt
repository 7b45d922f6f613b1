-- The result of a search for a value of a kind.
use Rattle.std.specs.Prelude.{Option, Some, None}

-- a value of the kind, or none if there is no such value
abbrev pub Finds : {A : Type 0} → (A → Type 0) → Option A → Type 0
Finds Is (Some x) = Is x
Finds {A} Is None = (x : A) → ¬ (Is x)
