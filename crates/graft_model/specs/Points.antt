-- Functions of numbers, changed at one number.
use Rattle.std.specs.Prelude.{ℕ}
pub use Rattle.session_value.specs.Points.{at}

abbrev pub at2 : {A : Type 0} → (ℕ → ℕ → A) → ℕ → ℕ → A → ℕ → ℕ → A
at2 f from to value = at f from (at (f from) to value)
