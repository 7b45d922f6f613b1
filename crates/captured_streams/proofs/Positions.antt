-- Where the first element that passes a test stands.
use Rattle.std.proofs.Common.{◌≡◌, ℕ, ◌≤◌, Bool, true, false, ltb, List, [], ◌∷◌, length, get_or, Some, None, sym, ap, ◌∙◌, inl, inr, arith}
use Rattle.std.specs.List.{slice_get, position, position_or_len, list_any}
use Rattle.std.proofs.lemmas.Bool.{cases_lt, lt-ltb, cond-true}
use Rattle.std.proofs.lemmas.Option.{slice_get-get_or, slice_get_within, get_or_from_slice_get}
use Rattle.std.proofs.lemmas.List.Quantifiers.{position-Some}
use Rattle.std.proofs.lemmas.List.Sums.{fails_before_first}
use Rattle.std.proofs.lemmas.List.Folds.{list_any_at, Any-from_list_any}

pub Some-None : {X : Type 0} (x : X) → Some x ≡ None → ⊥
Some-None x e = cc

module _ {X : Type 0} (p : X → Bool) where
  pub position_found : (xs : List X) (k : ℕ) → position p xs ≡ Some k → (x : X) × (slice_get xs k ≡ Some x) × (p x ≡ true)
  position_found [] k e = absurd (Some-None k (sym e))
  position_found (x ∷ xs) k e =
      let h = position-Some p (x ∷ xs) k x e in
      (get_or (x ∷ xs) k x, slice_get-get_or (x ∷ xs) k x h.0, h.1)

  pub position_none : (xs : List X) → position p xs ≡ None → (k : ℕ) (x : X) → slice_get xs k ≡ Some x → p x ≡ false
  position_none xs none k x at =
      let n = position_or_len p xs in
      let far : length xs ≤ n = elim (cases_lt n (length xs)) [
        | inl low ↦ absurd (Some-None n (sym (cond-true (ltb n (length xs)) (Some n) None (lt-ltb n (length xs) low)) ∙ none))
        | inr high ↦ high
      ] in
      ap p (sym (get_or_from_slice_get xs k x x at)) ∙ fails_before_first p xs k x (omega (arith, slice_get_within xs k x at, far))

  pub any_here : (xs : List X) (k : ℕ) (x : X) → slice_get xs k ≡ Some x → p x ≡ true → list_any p xs ≡ true
  any_here xs k x at passes = list_any_at p xs k x (slice_get_within xs k x at) (ap p (get_or_from_slice_get xs k x x at) ∙ passes)

  pub any_found : (xs : List X) → list_any p xs ≡ true → (k : ℕ) × (x : X) × (slice_get xs k ≡ Some x) × (p x ≡ true)
  any_found xs e =
      let a = Any-from_list_any p xs e in
      (a.0, a.1, slice_get-get_or xs a.0 a.1 a.2 ∙ ap (λ (x : X). Some x) a.3, a.4)
