-- Functions of numbers that are changed at one number.
use Rattle.std.specs.Prelude.{ℕ, ◌==◌, if◌then◌else◌}

abbrev pub at : {A : Type 0} → (ℕ → A) → ℕ → A → ℕ → A
at f index value n = if n == index then value else f n
