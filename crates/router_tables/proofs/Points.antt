-- Functions of numbers with another value at one of them.
use Rattle.std.proofs.Common.{◌≡◌, ◌≢◌, ℕ, Bool, refl, sym, ap, ◌∙◌, arith, inl, inr, ◌⊎◌}
use Rattle.std.specs.Prelude.{if◌then◌else◌}
use Rattle.std.proofs.lemmas.Bool.{cases_lt, eq-eqb, ne_eqb}
use Rattle.session_value.specs.Points.{at}

-- a number is the other one, or isn't
pub one_or_other : (p q : ℕ) → (q ≡ p) ⊎ (q ≢ p)
one_or_other p q = elim (cases_lt q p) [
  | inl below ↦ inr (λ e. let x : ⊥ = omega (arith, below, e) in x)
  | inr from ↦ elim (cases_lt p q) [ inl above ↦ inr (λ e. let x : ⊥ = omega (arith, above, e) in x) | inr to ↦ inl (omega (arith, from, to)) ]
]

pub at_here : {A : Type 0} (f : ℕ → A) (p : ℕ) (x : A) (q : ℕ) → q ≡ p → at f p x q ≡ x
at_here f p x q e = ap (λ (b : Bool). let y = if b then x else f q in y) (eq-eqb q p e)

pub at_own : {A : Type 0} (f : ℕ → A) (p : ℕ) (x : A) → at f p x p ≡ x
at_own f p x = at_here f p x p refl

pub at_else : {A : Type 0} (f : ℕ → A) (p : ℕ) (x : A) (q : ℕ) → q ≢ p → at f p x q ≡ f q
at_else f p x q not = ap (λ (b : Bool). let y = if b then x else f q in y) (ne_eqb q p not)

-- a function is another one with a value at a place, where it is that everywhere
pub at_is : {A : Type 0} (f g : ℕ → A) (p : ℕ) (x : A) → g p ≡ x → ((q : ℕ) → q ≢ p → g q ≡ f q) → g ≡ at f p x
at_is f g p x here others = λ i q. each q i
  where
    each : (q : ℕ) → g q ≡ at f p x q
    each q = elim (one_or_other p q) [ inl e ↦ ap g e ∙ here ∙ sym (ap (at f p x) e ∙ at_own f p x) | inr not ↦ others q not ∙ sym (at_else f p x q not) ]
