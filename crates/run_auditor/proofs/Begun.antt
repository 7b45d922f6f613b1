-- Lists of actors that are made one after another.
use Rattle.std.proofs.Common.{◌≡◌, ℕ, ◌+◌, List, [], ◌∷◌, ◌++◌, length, Some, sym, ◌∙◌, subst, inl, inr, arith}
use Rattle.std.specs.Prelude.{slice_get}
use Rattle.std.proofs.lemmas.List.{length-append}
use Rattle.std.proofs.lemmas.Option.{same_Some}
use Rattle.ring_net.proofs.FreshCells.{slice_get-snoc}

module _ {A : Type 0} (Is : ℕ → A → Type 0) where
  -- so many, each of which is that of its index
  pub record AllAt (count : ℕ) (xs : List A) : Type 0 where
    pub all : length xs ≡ count
    pub each : (n : ℕ) (x : A) → slice_get xs n ≡ Some x → Is n x

  pub one_more : (count : ℕ) (xs : List A) (x : A) → AllAt count xs → Is count x → AllAt (count + 1) (xs ++ x ∷ [])
  one_more count xs x so_far is = record {
    all = (let longer = length-append xs (x ∷ []) in let all = so_far.all in omega (arith, longer, all));
    each = λ n y at. elim (slice_get-snoc xs x n) [
      | inl last ↦ subst (Is n) (same_Some x y (sym last.1 ∙ at)) (subst (λ (k : ℕ). Is k x) (sym (last.0 ∙ so_far.all)) is)
      | inr before ↦ so_far.each n y (sym before ∙ at)
    ];
  }
