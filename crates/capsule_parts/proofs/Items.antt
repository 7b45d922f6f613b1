-- One item more of a list.
use Rattle.std.proofs.Common.{◌≡◌, ℕ, ◌+◌, ◌<◌, List, [], ◌∷◌, ◌++◌, length, take, drop, sym, ap, ◌∙◌}
use Rattle.std.specs.Prelude.{slice_index_or}
use Rattle.std.proofs.lemmas.List.{drop_more, take_more}

module _ {X : Type 0} (xs : List X) (i : ℕ) (x : X) (below : i < length xs) (is : x ≡ slice_index_or xs i x) where
  pub item_left : drop i xs ≡ x ∷ drop (i + 1) xs
  item_left = drop_more xs i x below ∙ ap (λ (y : X). y ∷ drop (i + 1) xs) (sym is)

  pub item_taken : take (i + 1) xs ≡ take i xs ++ x ∷ []
  item_taken = take_more xs i x below ∙ ap (λ (y : X). take i xs ++ y ∷ []) (sym is)
