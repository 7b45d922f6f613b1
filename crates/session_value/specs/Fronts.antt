-- What bytes begin with.
use Rattle.std.specs.Prelude.{ℕ, ◌≡◌, List, ◌++◌}
use Rattle.bgp_story.specs.Legal.{IsGot}

-- Other bytes begin with these bytes.
pub record AreFirst (first bytes : List ℕ) : Type 0 where
  pub rest : List ℕ
  pub is : bytes ≡ first ++ rest

-- bytes begin with no whole message and no faulty header
abbrev pub BeginsNothing : List ℕ → Type 0
BeginsNothing bytes = (front rest : List ℕ) → bytes ≡ front ++ rest → IsGot front → ⊥
