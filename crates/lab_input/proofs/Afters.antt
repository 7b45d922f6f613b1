-- Things that are looked at beside those before them.
use Rattle.std.proofs.Common.{◌≡◌, ℕ, ◌+◌, ◌<◌, Bool, true, false, not, cond, ◌||◌, List, [], ◌∷◌, ◌++◌, length, get_or, take, drop, map, refl, sym, ap, ◌∙◌}
use Rattle.std.specs.Prelude.{Option, Some, None}
use Rattle.std.specs.Option.{option_or}
use Rattle.std.proofs.lemmas.List.{take_more, drop_more, map-append}
use Rattle.std.specs.List.{list_any}
use Rattle.std.proofs.lemmas.List.Folds.{list_any-append}
use Rattle.lab_input.specs.declared.bad.BadInput.{BadInput}
use Rattle.lab_keys.specs.Kinds.{each_from}
use Rattle.lab_input.specs.Names.{each_after}

module _ {A B : Type 0} (bad : List B → B → Option BadInput) (f : A → B) (xs : List A) (i : ℕ) (x : A) (within : i < length xs) (is : x ≡ get_or xs i x) where
  pub before_next : map f (take (i + 1) xs) ≡ map f (take i xs) ++ f x ∷ []
  before_next = ap (map f) (take_more xs i x within ∙ ap (λ y. take i xs ++ y ∷ []) (sym is)) ∙ map-append f (take i xs) (x ∷ [])

  from_here : map f (drop i xs) ≡ f x ∷ map f (drop (i + 1) xs)
  from_here = ap (map f) (drop_more xs i x within ∙ ap (λ y. y ∷ drop (i + 1) xs) (sym is))

  pub after_goes_on : (whole : Option BadInput) → each_after bad (map f (take i xs)) (map f (drop i xs)) ≡ whole → None ≡ bad (map f (take i xs)) (f x)
      → each_after bad (map f (take (i + 1) xs)) (map f (drop (i + 1) xs)) ≡ whole
  after_goes_on whole so_far none =
      ap (λ ys. each_after bad ys (map f (drop (i + 1) xs))) before_next
      ∙ ap (λ o. option_or o (each_after bad (map f (take i xs) ++ f x ∷ []) (map f (drop (i + 1) xs)))) none
      ∙ sym (ap (each_after bad (map f (take i xs))) from_here) ∙ so_far

  pub after_stops : (found : BadInput) (whole : Option BadInput) → each_after bad (map f (take i xs)) (map f (drop i xs)) ≡ whole
      → Some found ≡ bad (map f (take i xs)) (f x) → Some found ≡ whole
  after_stops found whole so_far some =
      ap (λ o. option_or o (each_after bad (map f (take i xs) ++ f x ∷ []) (map f (drop (i + 1) xs)))) some
      ∙ sym (ap (each_after bad (map f (take i xs))) from_here) ∙ so_far

-- the same of things as they are
module _ {B : Type 0} (bad : List B → B → Option BadInput) (xs : List B) (i : ℕ) (x : B) (within : i < length xs) (is : x ≡ get_or xs i x) where
  plain_next : take (i + 1) xs ≡ take i xs ++ x ∷ []
  plain_next = take_more xs i x within ∙ ap (λ y. take i xs ++ y ∷ []) (sym is)

  plain_here : drop i xs ≡ x ∷ drop (i + 1) xs
  plain_here = drop_more xs i x within ∙ ap (λ y. y ∷ drop (i + 1) xs) (sym is)

  pub plain_goes_on : (whole : Option BadInput) → each_after bad (take i xs) (drop i xs) ≡ whole → None ≡ bad (take i xs) x
      → each_after bad (take (i + 1) xs) (drop (i + 1) xs) ≡ whole
  plain_goes_on whole so_far none =
      ap (λ ys. each_after bad ys (drop (i + 1) xs)) plain_next
      ∙ ap (λ o. option_or o (each_after bad (take i xs ++ x ∷ []) (drop (i + 1) xs))) none
      ∙ sym (ap (each_after bad (take i xs)) plain_here) ∙ so_far

  pub plain_stops : (found : BadInput) (whole : Option BadInput) → each_after bad (take i xs) (drop i xs) ≡ whole → Some found ≡ bad (take i xs) x
      → Some found ≡ whole
  plain_stops found whole so_far some =
      ap (λ o. option_or o (each_after bad (take i xs ++ x ∷ []) (drop (i + 1) xs))) some
      ∙ sym (ap (each_after bad (take i xs)) plain_here) ∙ so_far

-- ---- a set of the things that stand before

or_true : (b : Bool) → (b || (true || false)) ≡ true
or_true true = refl
or_true false = refl

or_false : (b : Bool) → (b || (false || false)) ≡ b
or_false true = refl
or_false false = refl

-- one more thing stands there
one_more : {A : Type 0} (test : A → Bool) (xs : List A) (x : A) → cond (test x) true (list_any test xs) ≡ list_any test (xs ++ x ∷ [])
one_more test xs x = by_test (test x) refl where
  by_test : (t : Bool) → test x ≡ t → cond t true (list_any test xs) ≡ list_any test (xs ++ x ∷ [])
  by_test true e = sym (list_any-append test xs (x ∷ []) ∙ ap (λ t. list_any test xs || (t || false)) e ∙ or_true (list_any test xs))
  by_test false e = sym (list_any-append test xs (x ∷ []) ∙ ap (λ t. list_any test xs || (t || false)) e ∙ or_false (list_any test xs))

-- the set and the list have one more; `old` and `new` say whether the set had what the test asks for, and has it
pub any_next : {A B : Type 0} (test : B → Bool) (f : A → B) (xs : List A) (i : ℕ) (x : A) → i < length xs → x ≡ get_or xs i x → (old new : Bool)
    → new ≡ cond (test (f x)) true old → old ≡ list_any test (map f (take i xs)) → new ≡ list_any test (map f (take (i + 1) xs))
any_next test f xs i x within is old new more so_far =
    let longer : map f (take (i + 1) xs) ≡ map f (take i xs) ++ f x ∷ [] =
    ap (map f) (take_more xs i x within ∙ ap (λ y. take i xs ++ y ∷ []) (sym is)) ∙ map-append f (take i xs) (x ∷ []) in
    more ∙ ap (λ t. cond (test (f x)) true t) so_far ∙ one_more test (map f (take i xs)) (f x) ∙ ap (list_any test) (sym longer)

pub any_here : {A : Type 0} (test : A → Bool) (xs : List A) (i : ℕ) (x : A) → i < length xs → x ≡ get_or xs i x → (old new : Bool)
    → new ≡ cond (test x) true old → old ≡ list_any test (take i xs) → new ≡ list_any test (take (i + 1) xs)
any_here test xs i x within is old new more so_far =
    let longer : take (i + 1) xs ≡ take i xs ++ x ∷ [] = take_more xs i x within ∙ ap (λ y. take i xs ++ y ∷ []) (sym is) in
    more ∙ ap (λ t. cond (test x) true t) so_far ∙ one_more test (take i xs) x ∙ ap (list_any test) (sym longer)

-- what isn't new stands there again
pub again_is : (is_new had there : Bool) → is_new ≡ not had → had ≡ there → not is_new ≡ there
again_is is_new true there e f = ap not e ∙ f
again_is is_new false there e f = ap not e ∙ f

-- ---- things with their indices

module _ {A : Type 0} (flaw : ℕ → A → Option BadInput) (xs : List A) (i : ℕ) (x : A) (within : i < length xs) (is : x ≡ get_or xs i x) where
  from_next : drop i xs ≡ x ∷ drop (i + 1) xs
  from_next = drop_more xs i x within ∙ ap (λ y. y ∷ drop (i + 1) xs) (sym is)

  pub from_goes_on : (whole : Option BadInput) → each_from flaw i (drop i xs) ≡ whole → None ≡ flaw i x → each_from flaw (i + 1) (drop (i + 1) xs) ≡ whole
  from_goes_on whole so_far none = ap (λ o. option_or o (each_from flaw (i + 1) (drop (i + 1) xs))) none ∙ sym (ap (each_from flaw i) from_next) ∙ so_far

  pub from_stops : (found : BadInput) (whole : Option BadInput) → each_from flaw i (drop i xs) ≡ whole → Some found ≡ flaw i x → Some found ≡ whole
  from_stops found whole so_far some = ap (λ o. option_or o (each_from flaw (i + 1) (drop (i + 1) xs))) some ∙ sym (ap (each_from flaw i) from_next) ∙ so_far
