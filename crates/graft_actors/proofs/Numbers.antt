-- Actors and their numbers.
use Rattle.std.proofs.Common.{◌≡◌, ℕ, ◌+◌, ◌-◌, ◌<◌, ◌==◌, nat_lt, Bool, true, false, Some, None, refl, sym, ap, ◌∙◌, subst, inl, inr, arith}
use Rattle.std.specs.Prelude.{◌⊎◌}
use Rattle.std.proofs.lemmas.Bool.Decides.{nat_tests}
use Rattle.graft_model.specs.Setups.{Setup, routers_in, peerings_in}
use Rattle.graft_actors.specs.Actors.{ActorName, Router, FarSide, Operator, number_in, IsActor, actor_at, same_name}

-- ---- one name

equal : (n : ℕ) → (n == n) ≡ true
equal n = grind (arith, nat_tests)

tells : (m n : ℕ) → (m == n) ≡ true → m ≡ n
tells m n e = grind (arith, nat_tests)

pub same_itself : (x : ActorName) → same_name x x ≡ true
same_itself (Router q) = equal q
same_itself (FarSide p) = equal p
same_itself Operator = refl

pub same_tells : (x y : ActorName) → same_name x y ≡ true → x ≡ y
same_tells (Router q) (Router r) e = ap Router (tells q r e)
same_tells (Router q) (FarSide p) e = absurd cc
same_tells (Router q) Operator e = absurd cc
same_tells (FarSide p) (Router r) e = absurd cc
same_tells (FarSide p) (FarSide q) e = ap FarSide (tells p q e)
same_tells (FarSide p) Operator e = absurd cc
same_tells Operator (Router r) e = absurd cc
same_tells Operator (FarSide p) e = absurd cc
same_tells Operator Operator e = refl

pub some_same : (x y : ActorName) → Some x ≡ Some y → x ≡ y
some_same x y e = cc

-- ---- numbers

at_router : (setup : Setup) (n : ℕ) → n < routers_in setup → actor_at setup n ≡ Some (Router n)
at_router setup n l = grind (arith, nat_tests)

at_far : (setup : Setup) (p : ℕ) → p < peerings_in setup → actor_at setup (routers_in setup + p) ≡ Some (FarSide p)
at_far setup p l =
    let e : (routers_in setup + p) - routers_in setup ≡ p = omega arith in
    grind (arith, nat_tests, e)

pub at_operator : (setup : Setup) → actor_at setup (routers_in setup + peerings_in setup) ≡ Some Operator
at_operator setup = grind (arith, nat_tests)

at_nobody : (setup : Setup) (n : ℕ) → routers_in setup + peerings_in setup < n → actor_at setup n ≡ None
at_nobody setup n l = grind (arith, nat_tests)

pub there : (setup : Setup) (x : ActorName) → IsActor setup x → actor_at setup (number_in setup x) ≡ Some x
there setup (Router r) l = at_router setup r l
there setup (FarSide p) l = at_far setup p l
there setup Operator l = at_operator setup

-- where a number stands
where_is : (k m n : ℕ) → (n < k) ⊎ (((p : ℕ) × (p < m) × (n ≡ k + p)) ⊎ ((n ≡ k + m) ⊎ (k + m < n)))
where_is k m n = elim (by_test (nat_lt n k)) [
  | inl e ↦ inl (grind (arith, nat_tests))
  | inr e ↦ elim (by_test (nat_lt n (k + m))) [
    | inl f ↦ inr (inl (n - k, grind (arith, nat_tests), grind (arith, nat_tests)))
    | inr f ↦ elim (by_test (n == k + m)) [ inl g ↦ inr (inr (inl (grind (arith, nat_tests)))) | inr g ↦ inr (inr (inr (grind (arith, nat_tests)))) ]
  ]
]
  where
    by_test : (b : Bool) → (b ≡ true) ⊎ (b ≡ false)
    by_test true = inl refl
    by_test false = inr refl

named : (setup : Setup) (n : ℕ) (x y : ActorName) → actor_at setup n ≡ Some y → IsActor setup y → n ≡ number_in setup y → actor_at setup n ≡ Some x
    → IsActor setup x × (n ≡ number_in setup x)
named setup n x y is known number e = subst (λ (z : ActorName). IsActor setup z × (n ≡ number_in setup z)) (same (sym is ∙ e)) (known, number)
  where
    same : {a b : ActorName} → Some a ≡ Some b → a ≡ b
    same h = cc

pub of_number : (setup : Setup) (n : ℕ) (x : ActorName) → actor_at setup n ≡ Some x → IsActor setup x × (n ≡ number_in setup x)
of_number setup n x e = elim (where_is (routers_in setup) (peerings_in setup) n) [
  | inl l ↦ named setup n x (Router n) (at_router setup n l) l refl e
  | inr (inl (p, l, is)) ↦ named setup n x (FarSide p) (ap (actor_at setup) is ∙ at_far setup p l) l is e
  | inr (inr (inl is)) ↦ named setup n x Operator (ap (actor_at setup) is ∙ at_operator setup) tt is e
  | inr (inr (inr l)) ↦ absurd (none (sym (at_nobody setup n l) ∙ e))
]
  where
    none : None ≡ Some x → ⊥
    none h = absurd cc

-- an actor has one number
pub once : (setup : Setup) (m n : ℕ) (x : ActorName) → actor_at setup m ≡ Some x → actor_at setup n ≡ Some x → m ≡ n
once setup m n x e f = (of_number setup m x e).1 ∙ sym (of_number setup n x f).1
