-- Candidates of numbered sources: where one is found, and their order.
use Rattle.std.proofs.Common.{◌≡◌, ℕ, zero, suc, ◌+◌, ◌<◌, ◌≤◌, ◌==◌, Bool, true, false, cond, ◌||◌, List, []}
use Rattle.std.proofs.Common.{◌∷◌, ◌++◌, map, Option, Some, None, refl, sym, ap, subst, ◌∙◌, arith}
use Rattle.std.specs.List.{AllByRecursion, filter_map, cons_option, find, list_any, range_with_len}
use Rattle.std.specs.List.Sorted.{IsStrictlySortedBy}
use Rattle.std.proofs.lemmas.Bool.{eqb-true}
use Rattle.std.proofs.lemmas.Bool.Decides.{nat_tests}
use Rattle.std.specs.declared.cmp.Ordering.TheVariants.{Less}
use Rattle.bgp_types.specs.declared.rank.From.{From}
use Rattle.decision_groups.specs.Order.{from_order}
use Rattle.route_policy.specs.Candidates.{Candidate}

-- where candidates come from
abbrev pub sources : List Candidate → List From
sources candidates = map (λ c. c.0.from) candidates

-- ---- lists in order, one behind the other

pub both_all : {A : Type 0} (P : A → Type 0) (xs ys : List A) → AllByRecursion P xs → AllByRecursion P ys → AllByRecursion P (xs ++ ys)
both_all P [] ys g h = h
both_all P (x ∷ xs) ys g h = (g.0, both_all P xs ys g.1 h)

pub both_sorted : (xs ys : List From) → IsStrictlySortedBy from_order xs → IsStrictlySortedBy from_order ys
    → AllByRecursion (λ x. AllByRecursion (λ y. from_order x y ≡ Less) ys) xs → IsStrictlySortedBy from_order (xs ++ ys)
unfolding IsStrictlySortedBy
both_sorted [] ys g h below = h
both_sorted (x ∷ xs) ys g h below = (both_all (λ y. from_order x y ≡ Less) xs ys g.0 below.0, both_sorted xs ys g.1 h below.1)

pub sources-append : (xs ys : List Candidate) → sources (xs ++ ys) ≡ sources xs ++ sources ys
sources-append [] ys = refl
sources-append (x ∷ xs) ys = ap (λ (zs : List From). x.0.from ∷ zs) (sources-append xs ys)

-- ---- the candidates of numbers

module _ (g : ℕ → Option Candidate) (source : ℕ → From) (named : (k : ℕ) (c : Candidate) → g k ≡ Some c → c.0.from ≡ source k) where
  all_step : (P : From → Type 0) (a : ℕ) (rest : List Candidate) → P (source a) → AllByRecursion P (sources rest) → (o : Option Candidate) → g a ≡ o
      → AllByRecursion P (sources (cons_option o rest))
  all_step P a rest h more None is = more
  all_step P a rest h more (Some c) is = (subst P (sym (named a c is)) h, more)

  -- what holds of the sources of all numbers from one on
  pub all_from : (P : From → Type 0) (n a : ℕ) → ((k : ℕ) → a ≤ k → P (source k)) → AllByRecursion P (sources (filter_map g (range_with_len a n)))
  all_from P zero a h = tt
  all_from P (suc n) a h =
      all_step P a (filter_map g (range_with_len (a + 1) n)) (h a (omega arith)) (all_from P n (a + 1) (λ k le. h k (omega (arith, le)))) (g a) refl

  sorted_step : (a : ℕ) (rest : List Candidate) → AllByRecursion (λ y. from_order (source a) y ≡ Less) (sources rest)
      → IsStrictlySortedBy from_order (sources rest) → (o : Option Candidate) → g a ≡ o → IsStrictlySortedBy from_order (sources (cons_option o rest))
  unfolding IsStrictlySortedBy
  sorted_step a rest below more None is = more
  sorted_step a rest below more (Some c) is =
      (subst (λ (x : From). AllByRecursion (λ y. from_order x y ≡ Less) (sources rest)) (sym (named a c is)) below, more)

  pub sorted_numbers : ((j k : ℕ) → j < k → from_order (source j) (source k) ≡ Less) → (n a : ℕ)
      → IsStrictlySortedBy from_order (sources (filter_map g (range_with_len a n)))
  unfolding IsStrictlySortedBy
  sorted_numbers rises zero a = tt
  sorted_numbers rises (suc n) a =
      sorted_step a (filter_map g (range_with_len (a + 1) n))
      (all_from (λ y. from_order (source a) y ≡ Less) n (a + 1) (λ k le. rises a k (omega (arith, le)))) (sorted_numbers rises n (a + 1)) (g a) refl

  passed_by : (test : From → Bool) (k : ℕ) (rest : List Candidate) → test (source k) ≡ false → (o : Option Candidate) → g k ≡ o
      → find (λ c. test c.0.from) (cons_option o rest) ≡ find (λ c. test c.0.from) rest
  passed_by test k rest fails None is = refl
  passed_by test k rest fails (Some c) is = ap (λ (b : Bool). cond b (Some c) (find (λ d. test d.0.from) rest)) (ap test (named k c is) ∙ fails)

  -- a test that no number passes finds nothing
  pub none_found : (test : From → Bool) → ((k : ℕ) → test (source k) ≡ false) → (ks : List ℕ) → find (λ c. test c.0.from) (filter_map g ks) ≡ None
  none_found test fails [] = refl
  none_found test fails (k ∷ ks) = passed_by test k (filter_map g ks) (fails k) (g k) refl ∙ none_found test fails ks

  -- a test that one number passes finds what that number has
  module _ (test : From → Bool) (p : ℕ) (tells : (k : ℕ) → test (source k) ≡ (k == p)) where
    kept : (b : Bool) (o : Option Candidate) → o ≡ None → cond b o None ≡ None
    kept true o e = e
    kept false o e = refl

    here : (k : ℕ) (rest : List Candidate) (b : Bool) → (k == p) ≡ true → find (λ c. test c.0.from) rest ≡ cond b (g p) None → (o : Option Candidate)
        → g k ≡ o → find (λ c. test c.0.from) (cons_option o rest) ≡ g p
    here k rest b e others None is = others ∙ (kept b (g p) (ap g (sym (eqb-true k p e)) ∙ is) ∙ sym (ap g (sym (eqb-true k p e)) ∙ is))
    here k rest b e others (Some c) is =
        ap (λ (t : Bool). cond t (Some c) (find (λ d. test d.0.from) rest)) (ap test (named k c is) ∙ (tells k ∙ e))
        ∙ (sym is ∙ ap g (eqb-true k p e))

    found_step : (k : ℕ) (rest : List Candidate) (b : Bool) → find (λ c. test c.0.from) rest ≡ cond b (g p) None → (t : Bool) → (k == p) ≡ t
        → find (λ c. test c.0.from) (cons_option (g k) rest) ≡ cond (t || b) (g p) None
    found_step k rest b others true e = here k rest b e others (g k) refl
    found_step k rest b others false e = passed_by test k rest (tells k ∙ e) (g k) refl ∙ others

    pub found_among : (ks : List ℕ) → find (λ c. test c.0.from) (filter_map g ks) ≡ cond (list_any (λ k. k == p) ks) (g p) None
    found_among [] = refl
    found_among (k ∷ ks) = found_step k (filter_map g ks) (list_any (λ j. j == p) ks) (found_among ks) (k == p) refl

-- the numbers from one on have each of theirs
among_step : (a p : ℕ) (rest : Bool) → a ≤ p → (a + 1 ≤ p → rest ≡ true) → (t : Bool) → (a == p) ≡ t → (t || rest) ≡ true
among_step a p rest le more true e = refl
among_step a p rest le more false e = more (grind (arith, nat_tests))

pub among_range : (n a p : ℕ) → a ≤ p → p < a + n → list_any (λ k. k == p) (range_with_len a n) ≡ true
among_range zero a p le lt = absurd (omega (arith, le, lt))
among_range (suc n) a p le lt = among_step a p (list_any (λ k. k == p) (range_with_len (a + 1) n)) le
    (λ further. among_range n (a + 1) p further (omega (arith, lt))) (a == p) refl

-- numbers that have nothing add nothing
pub none_added : (g : ℕ → Option Candidate) (n a : ℕ) → ((k : ℕ) → a ≤ k → g k ≡ None) → filter_map g (range_with_len a n) ≡ []
none_added g zero a none = refl
none_added g (suc n) a none = ap (λ (o : Option Candidate). cons_option o (filter_map g (range_with_len (a + 1) n))) (none a (omega arith))
    ∙ none_added g n (a + 1) (λ k le. none k (omega (arith, le)))

-- so fewer numbers do, where the further ones have nothing
pub fewer : (g : ℕ → Option Candidate) (n m a : ℕ) → n ≤ m → ((k : ℕ) → a + n ≤ k → g k ≡ None)
    → filter_map g (range_with_len a m) ≡ filter_map g (range_with_len a n)
fewer g zero m a le none = none_added g m a (λ k h. none k (omega (arith, h)))
fewer g (suc n) zero a le none = absurd (omega (arith, le))
fewer g (suc n) (suc m) a le none = ap (cons_option (g a)) (fewer g n m (a + 1) (omega (arith, le)) (λ k h. none k (omega (arith, h))))
