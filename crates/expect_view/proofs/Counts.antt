-- How many expectations hold, and how many don't.
use Rattle.std.proofs.Common.{◌≡◌, ℕ, ◌+◌, ◌<◌, Bool, true, false, cond, eqb, not, ◌&&◌, List, [], ◌∷◌, length, take, get_or, refl, sym, ap, ◌∙◌, arith}
use Rattle.std.proofs.Common.{ne_eqb}
use Rattle.std.specs.Prelude.{Some, None, is_some, count_by, if◌then◌else◌}
use Rattle.std.specs.List.{list_all}
use Rattle.std.specs.Option.{option_or}
use Rattle.std.proofs.lemmas.List.Sums.{sum_by-cons, count_by_more_yes, count_by_more_no}
use Rattle.lab_tables.specs.declared.expectation.ExpectedValue.{ExpectedValue}
use Rattle.lab_report.specs.declared.lab.Lab.{Lab}
use Rattle.expect_view.specs.Expect.{is_got, holds, compared, difference}

-- ---- one expectation

-- it differs somewhere exactly where it doesn't hold
pub differs : (lab : Lab) (expectation : List ExpectedValue) → is_some (difference lab expectation) ≡ not (holds lab expectation)
differs lab [] = refl
differs lab (w ∷ ws) = by_test (is_got lab w) (differs lab ws) where
  by_test : (t : Bool) → is_some (difference lab ws) ≡ not (holds lab ws)
      → is_some (option_or (if t then None else Some (compared lab w)) (difference lab ws)) ≡ not (t && holds lab ws)
  by_test true rest = rest
  by_test false rest = refl

-- how many fail of one, where it differs and where it doesn't
pub one_fails : (lab : Lab) (expectation : List ExpectedValue) (b : Bool) → is_some (difference lab expectation) ≡ b
    → ◌≡◌ {A = ℕ} (if b then 1 else 0) (if holds lab expectation then 0 else 1)
one_fails lab expectation b is = by_test b (holds lab expectation) (sym is ∙ differs lab expectation) where
  by_test : (b h : Bool) → b ≡ not h → ◌≡◌ {A = ℕ} (if b then 1 else 0) (if h then 0 else 1)
  by_test b true is = ap (λ (t : Bool). let n : ℕ = if t then 1 else 0 in n) is
  by_test b false is = ap (λ (t : Bool). let n : ℕ = if t then 1 else 0 in n) is

-- ---- several

-- one more is counted where it fails
pub fails_more : {X : Type 0} (p : X → Bool) (xs : List X) (i : ℕ) (x : X) (so_far more : ℕ) → i < length xs → x ≡ get_or xs i x
    → so_far ≡ count_by (λ y. not (p y)) (take i xs) → more ≡ (if p x then 0 else 1)
    → so_far + more ≡ count_by (λ y. not (p y)) (take (i + 1) xs)
fails_more p xs i x so_far more within is counted one = by_test (p x) refl where
  by_test : (t : Bool) → p x ≡ t → so_far + more ≡ count_by (λ y. not (p y)) (take (i + 1) xs)
  by_test true e =
      let none : more ≡ 0 = one ∙ ap (λ (t : Bool). if t then 0 else 1) e in
      let same : so_far + more ≡ so_far = omega (arith, none) in
      same ∙ counted ∙ sym (count_by_more_no (λ y. not (p y)) xs i x within (ap (λ y. not (p y)) (sym is) ∙ ap not e))
  by_test false e =
      let some : more ≡ 1 = one ∙ ap (λ (t : Bool). if t then 0 else 1) e in
      ap (λ n. so_far + n) some ∙ ap (λ n. n + 1) counted
      ∙ sym (count_by_more_yes (λ y. not (p y)) xs i x within (ap (λ y. not (p y)) (sym is) ∙ ap not e))

-- none fails exactly where all hold
pub none_fails : {X : Type 0} (p : X → Bool) (xs : List X) → eqb (count_by (λ y. not (p y)) xs) 0 ≡ list_all p xs
none_fails p [] = refl
none_fails p (x ∷ xs) = ap (λ n. eqb n 0) (sum_by-cons (λ y. cond (not (p y)) 1 0) x xs) ∙ by_test (p x) (none_fails p xs) where
  by_test : (t : Bool) → eqb (count_by (λ y. not (p y)) xs) 0 ≡ list_all p xs
      → eqb (cond (not t) 1 0 + count_by (λ y. not (p y)) xs) 0 ≡ (t && list_all p xs)
  by_test true rest = let plus : 0 + count_by (λ y. not (p y)) xs ≡ count_by (λ y. not (p y)) xs = omega arith in ap (λ n. eqb n 0) plus ∙ rest
  by_test false rest = ne_eqb (1 + count_by (λ y. not (p y)) xs) 0 (λ e. omega (arith, e))
