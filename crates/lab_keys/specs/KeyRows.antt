-- A row of a table of keys.
use Rattle.std.specs.Prelude.{ℕ, Bool, List, Option}
use Rattle.lab_keys.specs.declared.key.Kind.{Kind}
use Rattle.lab_keys.specs.declared.key.Counts.{Counts}

-- a key, whether it is required, the kind of its value or of the members of the array there, and the limits of their number
pub record KeyRow : Type 0 where
  pub name : List ℕ
  pub needed : Bool
  pub kind : Kind
  pub counts : Option Counts
