-- A list of two.
use Rattle.std.proofs.Common.{◌≡◌, ◌≢◌, ℕ, ◌<◌, ◌≤◌, Bool, true, false, List, [], ◌∷◌, length, get_or, sym, arith}
use Rattle.std.specs.Prelude.{MatchBool}
use Rattle.std.proofs.lemmas.Bool.{false≢true}

module _ {X : Type 0} where
  pub two : (xs : List X) (x y : X) → 2 ≤ length xs → length xs < 3 → x ≡ get_or xs 0 x → y ≡ get_or xs 1 y → xs ≡ x ∷ y ∷ []
  two [] x y least below first second = absurd (omega (arith, least))
  two (a ∷ []) x y least below first second = absurd (omega (arith, least))
  two (a ∷ b ∷ []) x y least below first second = cc (first, second)
  two (a ∷ b ∷ c ∷ xs) x y least below first second = absurd (omega (arith, below))

  module _ (xs : List X) (x y a b : X) (is : xs ≡ x ∷ y ∷ []) where
    -- Where the first one is right, the second one decides.
    pub second_tells : (same : Bool) → x ≡ a → MatchBool same (y ≡ b) (y ≢ b) → MatchBool same (xs ≡ a ∷ b ∷ []) (xs ≢ a ∷ b ∷ [])
    second_tells true first second = cc (is, first, second)
    second_tells false first second = λ e. second (cc (is, e))

    pub first_tells : (same : Bool) → same ≡ false → x ≢ a → MatchBool same (xs ≡ a ∷ b ∷ []) (xs ≢ a ∷ b ∷ [])
    first_tells true wrong first = absurd (false≢true (sym wrong))
    first_tells false wrong first = λ e. first (cc (is, e))
