-- Functions with another value at one number.
use Rattle.std.proofs.Common.{◌≡◌, ℕ, ◌==◌, ◌&&◌, not, nat_lt, Bool, true, false, List, [], refl, cond, arith, ap, ◌∙◌}
use Rattle.std.proofs.lemmas.Bool.Decides.{nat_tests}
use Rattle.graft_model.specs.Points.{at, at2}
use Rattle.graft_worked.specs.Places.{two}

shadowed : {A : Type 0} (t : Bool) (a b c : A) → cond t a (cond t b c) ≡ cond t a c
shadowed true a b c = refl
shadowed false a b c = refl

same_cond : {A : Type 0} (t : Bool) (a : A) → cond t a a ≡ a
same_cond true a = refl
same_cond false a = refl

apart : (n : ℕ) → (n == 1) ≡ true → (n == 0) ≡ false
apart n e = grind (arith, nat_tests)

swapped : {A : Type 0} (s t : Bool) (a b b' c : A) → (t ≡ true → s ≡ false) → cond t b' (cond s a (cond t b c)) ≡ cond s a (cond t b' c)
swapped true true a b b' c unless = let e : ◌≡◌ {A = Bool} true false = unless refl in absurd cc
swapped true false a b b' c unless = refl
swapped false true a b b' c unless = refl
swapped false false a b b' c unless = refl

pub at-at : {A : Type 0} (f : ℕ → A) (k : ℕ) (a b : A) → at (at f k a) k b ≡ at f k b
at-at f k a b = λ i n. shadowed (n == k) b a (f n) i

pub at-same : {A : Type 0} (a : A) (k : ℕ) → at (λ n. a) k a ≡ (λ n. a)
at-same a k = λ i n. same_cond (n == k) a i

pub at-back : {A : Type 0} (a b : A) (k : ℕ) → at (at (λ n. a) k b) k a ≡ (λ n. a)
at-back a b k = at-at (λ n. a) k b a ∙ at-same a k

pub two-0 : {A : Type 0} (none a b a' : A) → at (two none a b) 0 a' ≡ two none a' b
two-0 none a b a' = λ i n. shadowed (n == 0) a' a (cond (n == 1) b none) i

pub two-1 : {A : Type 0} (none a b b' : A) → at (two none a b) 1 b' ≡ two none a b'
two-1 none a b b' = λ i n. swapped (n == 0) (n == 1) a b b' none (apart n) i

module _ {A : Type 0} (none : A) (k j : ℕ) (x y : A) where
  pub two2-0 : (x' : A) → at2 (two (λ r. none) (at (λ r. none) k x) (at (λ r. none) j y)) 0 k x' ≡ two (λ r. none) (at (λ r. none) k x') (at (λ r. none) j y)
  two2-0 x' = ap (at (two (λ r. none) (at (λ r. none) k x) (at (λ r. none) j y)) 0) (at-at (λ r. none) k x x')
      ∙ two-0 (λ r. none) (at (λ r. none) k x) (at (λ r. none) j y) (at (λ r. none) k x')

  pub two2-1 : (y' : A) → at2 (two (λ r. none) (at (λ r. none) k x) (at (λ r. none) j y)) 1 j y' ≡ two (λ r. none) (at (λ r. none) k x) (at (λ r. none) j y')
  two2-1 y' = ap (at (two (λ r. none) (at (λ r. none) k x) (at (λ r. none) j y)) 1) (at-at (λ r. none) j y y')
      ∙ two-1 (λ r. none) (at (λ r. none) k x) (at (λ r. none) j y) (at (λ r. none) j y')

pub one2 : {A : Type 0} (none x x' : A) → at2 (at (λ r q. none) 0 (at (λ q. none) 0 x)) 0 0 x' ≡ at (λ r q. none) 0 (at (λ q. none) 0 x')
one2 none x x' = ap (at (at (λ r q. none) 0 (at (λ q. none) 0 x)) 0) (at-at (λ q. none) 0 x x')
    ∙ at-at (λ r q. none) 0 (at (λ q. none) 0 x) (at (λ q. none) 0 x')

each : {A : Type 0} (P : A → Type 0) (s t : Bool) (none a b : A) → P none → P a → P b → P (cond s a (cond t b none))
each P true t none a b x y z = y
each P false true none a b x y z = z
each P false false none a b x y z = x

-- a fact of each of two values, and of the one elsewhere
pub two_all : {A : Type 0} (P : A → Type 0) (none a b : A) → P none → P a → P b → (n : ℕ) → P (two none a b n)
two_all P none a b x y z n = each P (n == 0) (n == 1) none a b x y z

one_of : {A : Type 0} (P : A → Type 0) (t : Bool) (none a : A) → P none → P a → P (cond t a none)
one_of P true none a x y = y
one_of P false none a x y = x

pub at_all : {A : Type 0} (P : A → Type 0) (none : A) (k : ℕ) (a : A) → P none → P a → (n : ℕ) → P (at (λ m. none) k a n)
at_all P none k a x y n = one_of P (n == k) none a x y

-- ---- the other one of two routers

pub other_of_0 : (q : ℕ) → (nat_lt q 2 && not (q == 0)) ≡ (q == 1)
other_of_0 q = grind (arith, nat_tests)

pub other_of_1 : (q : ℕ) → (nat_lt q 2 && not (q == 1)) ≡ (q == 0)
other_of_1 q = grind (arith, nat_tests)

-- ---- nothing anywhere

pub empty_at : {A : Type 0} (k p : ℕ) → ◌≡◌ {A = List A} (at (λ p. []) k [] p) []
empty_at {A} k p = at_all (λ (l : List A). l ≡ []) [] k [] refl refl p

pub empty_two : {A : Type 0} (k j : ℕ) (r p : ℕ) → ◌≡◌ {A = List A} (two (λ r. []) (at (λ r. []) k []) (at (λ r. []) j []) r p) []
empty_two {A} k j r p = two_all (λ (f : ℕ → List A). f p ≡ []) (λ r. []) (at (λ r. []) k []) (at (λ r. []) j []) refl (empty_at k p) (empty_at j p) r

pub empty_one : {A : Type 0} (p r : ℕ) → ◌≡◌ {A = List A} (at (λ p r. []) 0 (at (λ r. []) 0 []) p r) []
empty_one {A} p r = at_all (λ (f : ℕ → List A). f r ≡ []) (λ r. []) 0 (at (λ r. []) 0 []) refl (empty_at 0 r) p
