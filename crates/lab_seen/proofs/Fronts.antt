-- Lists that are walked from their front.
use Rattle.std.proofs.Common.{◌≡◌, ℕ, zero, suc, ◌+◌, List, [], ◌∷◌, ◌++◌, Option, Some, None, drop, take, length, refl, sym, add-one}
use Rattle.std.specs.Prelude.{slice_get, option_to_list}
use Rattle.std.proofs.lemmas.List.{take_at}

module _ {A : Type 0} where
  -- the next element is the one at the index, and what is left is behind it
  pub record IsNext (xs : List A) (n : ℕ) (next : Option A) (rest : List A) : Type 0 where
    pub element : next ≡ slice_get xs n
    pub left : rest ≡ drop (n + 1) xs

  pub walked : (xs : List A) (n : ℕ) (next : Option A) (rest : List A) → drop n xs ≡ option_to_list next ++ rest → (next ≡ None → drop n xs ≡ [])
      → IsNext xs n next rest
  walked [] zero None rest e none = record { element = refl; left = sym e }
  walked [] zero (Some x) rest e none = absurd cc
  walked [] (suc n) None rest e none = record { element = refl; left = rw add-one (sym e) }
  walked [] (suc n) (Some x) rest e none = absurd cc
  walked (y ∷ xs) zero None rest e none = absurd (let f = none refl in cc)
  walked (y ∷ xs) zero (Some x) rest e none = record { element = cc; left = cc }
  walked (y ∷ xs) (suc n) next rest e none =
      let further = walked xs n next rest e none in
      record { element = further.element; left = rw add-one (rw add-one at further.left) }

  -- what is written back over a whole list
  pub written : (new old : List A) (n : ℕ) → length new ≡ n → take n (new ++ drop (length new) old) ≡ new
  written new old n same = take_at new (drop (length new) old) n same
