-- Lists that a loop goes through: what was made of the elements so far, and the tests of those to come.
use Rattle.std.proofs.Common.{◌≡◌, ℕ, ◌+◌, ◌<◌, ◌≤◌, Bool, true, false, ◌&&◌, List, [], ◌∷◌, ◌++◌, length}
use Rattle.std.proofs.Common.{map, take, drop, ap, sym, ◌∙◌, refl, subst, slice_index_or}
use Rattle.std.specs.Prelude.{Some, slice_get}
use Rattle.std.specs.List.{enumerate_from, list_all}
use Rattle.std.proofs.lemmas.List.{drop_more, drop_all}
use Rattle.std.proofs.lemmas.List.Concat.{flat_map_single}
use Rattle.std.proofs.lemmas.Option.{slice_get_within, get_or_from_slice_get}
use Rattle.lab_input.proofs.Numbered.{flat_map_numbered}
use Rattle.lab_setup.proofs.Lists.{read_at}

-- what is made of one numbered element more
pub map_numbered_more : {X Y : Type 0} (f : ℕ × X → Y) (xs : List X) (i : ℕ) (x : X) → i < length xs → x ≡ slice_index_or xs i x
    → map f (enumerate_from 0 (take (i + 1) xs)) ≡ map f (enumerate_from 0 (take i xs)) ++ f (i, x) ∷ []
map_numbered_more f xs i x below at =
    sym (flat_map_single f (enumerate_from 0 (take (i + 1) xs)))
    ∙ flat_map_numbered (λ y. f y ∷ []) xs i x below at
    ∙ ap (λ ys. ys ++ f (i, x) ∷ []) (flat_map_single f (enumerate_from 0 (take i xs)))

module _ {X : Type 0} (test : ℕ × X → Bool) (xs : List X) (i : ℕ) where
  -- whether the elements from this one on pass the test
  abbrev pub all_from : Bool
  all_from = list_all test (enumerate_from i (drop i xs))

  abbrev after : Bool
  after = list_all test (enumerate_from (i + 1) (drop (i + 1) xs))

  all_here : (x : X) → slice_get xs i ≡ Some x → all_from ≡ (test (i, x) && after)
  all_here x at = ap (λ ys. list_all test (enumerate_from i ys))
      (drop_more xs i x (slice_get_within xs i x at) ∙ ap (λ y. y ∷ drop (i + 1) xs) (get_or_from_slice_get xs i x x at))

  -- An element that passes leaves it to those behind it.
  pub all_next : (x : X) → slice_get xs i ≡ Some x → test (i, x) ≡ true → all_from ≡ list_all test (enumerate_from (i + 1) (drop (i + 1) xs))
  all_next x at passes = all_here x at ∙ ap (λ t. t && after) passes

  pub all_fail : (x : X) → slice_get xs i ≡ Some x → test (i, x) ≡ false → all_from ≡ false
  all_fail x at fails = all_here x at ∙ ap (λ t. t && after) fails

  -- Behind the last one nothing is left.
  pub all_done : length xs ≤ i → all_from ≡ true
  all_done past = ap (λ ys. list_all test (enumerate_from i ys)) (drop_all i xs past)

-- an element that was read at its index
pub item_at : {X : Type 0} (xs ys : List X) (i : ℕ) (x : X) → ys ≡ xs → i < length ys → x ≡ slice_index_or ys i x → slice_get xs i ≡ Some x
item_at xs ys i x same below is = read_at xs ys i i x same refl (subst (λ zs. i < length zs) same below) is
