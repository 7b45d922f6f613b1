-- Lists that are made for each number of a range: what is found in them, and their order.
use Rattle.std.proofs.Common.{◌≡◌, ℕ, zero, suc, ◌+◌, ◌<◌, ◌≤◌, cond, Bool, true, false, ◌||◌, List, [], ◌∷◌}
use Rattle.std.proofs.Common.{◌++◌, Option, Some, None, refl, sym, ap, ◌∙◌, subst, inl, inr, arith}
use Rattle.std.specs.Prelude.{◌≢◌, flat_map, All}
use Rattle.std.specs.List.{find, list_any, range_with_len, AllByRecursion}
use Rattle.std.specs.Option.{option_or}
use Rattle.std.proofs.lemmas.List.Folds.{find-append, list_any-append}
use Rattle.std.proofs.lemmas.Bool.{cases_eq}
use Rattle.operator_state.proofs.Lists.{by_test, all_append, all_map}

-- ---- each before all after it

abbrev pub Sorted : {A : Type 0} → (A → A → Type 0) → List A → Type 0
Sorted R [] = Unit {0}
Sorted R (x ∷ xs) = AllByRecursion (R x) xs × Sorted R xs

module _ {A : Type 0} where
  pub sorted_append : (R : A → A → Type 0) (xs ys : List A) → Sorted R xs → Sorted R ys → AllByRecursion (λ x. AllByRecursion (R x) ys) xs → Sorted R (xs ++ ys)
  sorted_append R [] ys one other across = other
  sorted_append R (x ∷ xs) ys one other across = (all_append (R x) xs ys one.0 across.0, sorted_append R xs ys one.1 other across.1)

  pub all_by_index : (P : A → Type 0) (xs : List A) → AllByRecursion P xs → All P xs
  all_by_index P [] all k d below = absurd (omega (arith, below))
  all_by_index P (x ∷ xs) all zero d below = all.0
  all_by_index P (x ∷ xs) all (suc k) d below = all_by_index P xs all.1 k d (omega (arith, below))

  -- ---- what is found

  pub found : (P : A → Type 0) (test : A → Bool) (xs : List A) (x : A) → AllByRecursion P xs → find test xs ≡ Some x → P x × (test x ≡ true)
  found P test [] x all e = absurd cc
  found P test (y ∷ xs) x all e = elim (by_test (test y)) [
    | inl t ↦
        let same : Some y ≡ Some x = sym (ap (λ (b : Bool). cond b (Some y) (find test xs)) t) ∙ e in
        let is : y ≡ x = cc in
        (subst P is all.0, sym (ap test is) ∙ t)
    | inr t ↦ found P test xs x all.1 (sym (ap (λ (b : Bool). cond b (Some y) (find test xs)) t) ∙ e)
  ]

  pub none_found : (test : A → Bool) (xs : List A) → AllByRecursion (λ x. test x ≡ false) xs → find test xs ≡ None
  none_found test [] all = refl
  none_found test (x ∷ xs) all = ap (λ (b : Bool). cond b (Some x) (find test xs)) all.0 ∙ none_found test xs all.1

  -- ---- of a range

  module _ (f : ℕ → List A) where
    pub all_range : (P : A → Type 0) (from len : ℕ) → ((m : ℕ) → from ≤ m → m < from + len → AllByRecursion P (f m))
        → AllByRecursion P (flat_map f (range_with_len from len))
    all_range P from zero each = tt
    all_range P from (suc len) each =
        all_append P (f from) (flat_map f (range_with_len (from + 1) len)) (each from (omega arith) (omega arith))
        (all_range P (from + 1) len (λ m behind within. each m (omega (arith, behind)) (omega (arith, within))))

    pub find_range_none : (test : A → Bool) (from len : ℕ) → ((m : ℕ) → from ≤ m → m < from + len → find test (f m) ≡ None)
        → find test (flat_map f (range_with_len from len)) ≡ None
    find_range_none test from zero none = refl
    find_range_none test from (suc len) none =
        find-append test (f from) (flat_map f (range_with_len (from + 1) len))
        ∙ (ap (λ (o : Option A). option_or o (find test (flat_map f (range_with_len (from + 1) len)))) (none from (omega arith) (omega arith))
        ∙ find_range_none test (from + 1) len (λ m behind within. none m (omega (arith, behind)) (omega (arith, within))))

    -- where only what is made for one number has one that passes
    pub find_range : (test : A → Bool) (n from len : ℕ) → ((m : ℕ) → m ≢ n → find test (f m) ≡ None) → from ≤ n → n < from + len
        → find test (flat_map f (range_with_len from len)) ≡ find test (f n)
    find_range test n from zero none behind within = absurd (omega (arith, behind, within))
    find_range test n from (suc len) none behind within = elim (cases_eq from n) [
      | inl is ↦
          find-append test (f from) (flat_map f (range_with_len (from + 1) len))
          ∙ (ap (option_or (find test (f from))) (find_range_none test (from + 1) len (λ m after before. none m (omega (arith, after, is))))
          ∙ (or_none (find test (f from)) ∙ ap (λ (m : ℕ). find test (f m)) is))
      | inr other ↦
          find-append test (f from) (flat_map f (range_with_len (from + 1) len))
          ∙ (ap (λ (o : Option A). option_or o (find test (flat_map f (range_with_len (from + 1) len)))) (none from other)
          ∙ find_range test n (from + 1) len none (omega (arith, behind, other)) (omega (arith, within)))
    ]
      where
        or_none : (o : Option A) → option_or o None ≡ o
        or_none None = refl
        or_none (Some x) = refl

    pub any_range_none : (test : A → Bool) (from len : ℕ) → ((m : ℕ) → from ≤ m → m < from + len → list_any test (f m) ≡ false)
        → list_any test (flat_map f (range_with_len from len)) ≡ false
    any_range_none test from zero none = refl
    any_range_none test from (suc len) none =
        list_any-append test (f from) (flat_map f (range_with_len (from + 1) len))
        ∙ (ap (λ (b : Bool). b || list_any test (flat_map f (range_with_len (from + 1) len))) (none from (omega arith) (omega arith))
        ∙ any_range_none test (from + 1) len (λ m behind within. none m (omega (arith, behind)) (omega (arith, within))))

    pub any_range : (test : A → Bool) (n from len : ℕ) → ((m : ℕ) → m ≢ n → list_any test (f m) ≡ false) → from ≤ n → n < from + len
        → list_any test (flat_map f (range_with_len from len)) ≡ list_any test (f n)
    any_range test n from zero none behind within = absurd (omega (arith, behind, within))
    any_range test n from (suc len) none behind within = elim (cases_eq from n) [
      | inl is ↦
          list_any-append test (f from) (flat_map f (range_with_len (from + 1) len))
          ∙ (ap (λ (b : Bool). list_any test (f from) || b) (any_range_none test (from + 1) len (λ m after before. none m (omega (arith, after, is))))
          ∙ (or_false (list_any test (f from)) ∙ ap (λ (m : ℕ). list_any test (f m)) is))
      | inr other ↦
          list_any-append test (f from) (flat_map f (range_with_len (from + 1) len))
          ∙ (ap (λ (b : Bool). b || list_any test (flat_map f (range_with_len (from + 1) len))) (none from other)
          ∙ any_range test n (from + 1) len none (omega (arith, behind, other)) (omega (arith, within)))
    ]
      where
        or_false : (b : Bool) → (b || false) ≡ b
        or_false true = refl
        or_false false = refl

    -- where what is made for a number stands before what is made for a later one
    pub sorted_range : (R : A → A → Type 0) (P : ℕ → A → Type 0) → ((m : ℕ) → AllByRecursion (P m) (f m)) → ((m : ℕ) → Sorted R (f m))
        → ((m n : ℕ) (x y : A) → m < n → P m x → P n y → R x y) → (from len : ℕ) → Sorted R (flat_map f (range_with_len from len))
    sorted_range R P all sorted across from zero = tt
    sorted_range R P all sorted across from (suc len) =
        sorted_append R (f from) (flat_map f (range_with_len (from + 1) len)) (sorted from) (sorted_range R P all sorted across (from + 1) len)
        (all_map (P from) (λ x. AllByRecursion (R x) (flat_map f (range_with_len (from + 1) len))) (f from)
        (λ x is. all_range (R x) (from + 1) len
        (λ m behind within. all_map (P m) (R x) (f m) (λ y other. across from m x y (omega (arith, behind)) is other) (all m))) (all from))
