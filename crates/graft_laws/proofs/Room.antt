-- How many places of a router are taken, through its events.
use Rattle.std.proofs.Common.{◌≡◌, ◌==◌, cond, ℕ, zero, suc, ◌<◌, ◌≤◌, ◌+◌, Bool, true, false, List, []}
use Rattle.std.proofs.Common.{◌∷◌, length, Option, Some, None, refl, sym, ap, ◌∙◌, arith}
use Rattle.std.proofs.lemmas.Bool.Decides.{nat_tests}
use Rattle.std.specs.Prelude.{◌≢◌, filter, nat_le}
use Rattle.std.specs.List.{range_with_len}
use Rattle.graft_steps.specs.declared.refusal.Refusal.TheVariants.{RouterFull, PolicyMissing}
use Rattle.std.specs.Option.{option_map}
use Rattle.graft_steps.specs.Refusals.{admit_refusal}
use Rattle.session_value.specs.Sessions.{SessionValue}
use Rattle.graft_model.specs.Points.{at}
use Rattle.graft_model.specs.Setups.{Setup, peerings_in, peering_numbers, room_of, missing_policy}
use Rattle.graft_model.specs.Parts.{Place, RouterPart}
use Rattle.graft_model.specs.GraftRows.{is_taken, taken_in, refusal_of}

fewer_step : {A : Type 0} (f g : A → Bool) (x : A) (xs : List A) → (f x ≡ true → g x ≡ true) → length (filter f xs) ≤ length (filter g xs)
    → length (filter f (x ∷ xs)) ≤ length (filter g (x ∷ xs))
fewer_step f g x xs here rest = by_tests (f x) (g x) here where
  by_tests : (u v : Bool) → (u ≡ true → v ≡ true) → length (cond u (x ∷ filter f xs) (filter f xs)) ≤ length (cond v (x ∷ filter g xs) (filter g xs))
  by_tests true true h = omega arith
  by_tests true false h = let e : false ≡ true = h refl in absurd cc
  by_tests false true h = omega arith
  by_tests false false h = rest

-- a test that passes less leaves fewer
pub fewer : {A : Type 0} (f g : A → Bool) (xs : List A) → ((x : A) → f x ≡ true → g x ≡ true) → length (filter f xs) ≤ length (filter g xs)
fewer f g [] h = omega arith
fewer f g (x ∷ xs) h = fewer_step f g x xs (h x) (fewer f g xs h)

-- a test that passes one number more leaves at most one more
none_of : (f g : ℕ → Bool) (a n q : ℕ) → q < a → ((x : ℕ) → x ≢ q → f x ≡ true → g x ≡ true)
    → length (filter f (range_with_len a n)) ≤ length (filter g (range_with_len a n))
none_of f g a zero q l h = omega arith
none_of f g a (suc n) q l h = fewer_step f g a (range_with_len (a + 1) n) (h a (λ is. omega arith)) (none_of f g (a + 1) n q (omega arith) h)

one_more_step : (f g : ℕ → Bool) (a : ℕ) (xs : List ℕ) → length (filter f xs) ≤ length (filter g xs)
    → length (filter f (a ∷ xs)) ≤ length (filter g (a ∷ xs)) + 1
one_more_step f g a xs rest = by_tests (f a) (g a) where
  by_tests : (u v : Bool) → length (cond u (a ∷ filter f xs) (filter f xs)) ≤ length (cond v (a ∷ filter g xs) (filter g xs)) + 1
  by_tests true true = omega arith
  by_tests true false = omega arith
  by_tests false true = omega arith
  by_tests false false = omega arith

one_later_step : (f g : ℕ → Bool) (a : ℕ) (xs : List ℕ) → (f a ≡ true → g a ≡ true) → length (filter f xs) ≤ length (filter g xs) + 1
    → length (filter f (a ∷ xs)) ≤ length (filter g (a ∷ xs)) + 1
one_later_step f g a xs here rest = by_tests (f a) (g a) here where
  by_tests : (u v : Bool) → (u ≡ true → v ≡ true) → length (cond u (a ∷ filter f xs) (filter f xs)) ≤ length (cond v (a ∷ filter g xs) (filter g xs)) + 1
  by_tests true true h = omega arith
  by_tests true false h = let e : false ≡ true = h refl in absurd cc
  by_tests false true h = omega arith
  by_tests false false h = rest

pub one_more : (f g : ℕ → Bool) (a n q : ℕ) → ((x : ℕ) → x ≢ q → f x ≡ true → g x ≡ true)
    → length (filter f (range_with_len a n)) ≤ length (filter g (range_with_len a n)) + 1
one_more f g a zero q h = omega arith
one_more f g a (suc n) q h = by_test (a == q) refl (one_more f g (a + 1) n q h) where
  by_test : (b : Bool) → (a == q) ≡ b → length (filter f (range_with_len (a + 1) n)) ≤ length (filter g (range_with_len (a + 1) n)) + 1
      → length (filter f (a ∷ range_with_len (a + 1) n)) ≤ length (filter g (a ∷ range_with_len (a + 1) n)) + 1
  by_test true is rest = let same : a ≡ q = grind (arith, nat_tests) in one_more_step f g a (range_with_len (a + 1) n) (none_of f g (a + 1) n q (omega arith) h)
  by_test false is rest = one_later_step f g a (range_with_len (a + 1) n) (h a (grind (arith, nat_tests))) rest

module _ (setup : Setup) (before part : RouterPart) (q : ℕ) (place : Place) (places : part.places ≡ at before.places q place) where
  elsewhere : (x : ℕ) → x ≢ q → is_taken (part.places x) ≡ true → is_taken (before.places x) ≡ true
  elsewhere x ne h =
      ap is_taken (let e : before.places x ≡ at before.places q place x = grind (arith, nat_tests) in e ∙ ap (λ (f : ℕ → Place). f x) (sym places)) ∙ h

  here_too : (x : ℕ) → is_taken (before.places q) ≡ true → is_taken (part.places x) ≡ true → is_taken (before.places x) ≡ true
  here_too x was h = by_test (x == q) refl where
    by_test : (b : Bool) → (x == q) ≡ b → is_taken (before.places x) ≡ true
    by_test true is = let same : x ≡ q = grind (arith, nat_tests) in ap (λ (y : ℕ). is_taken (before.places y)) same ∙ was
    by_test false is = elsewhere x (grind (arith, nat_tests)) h

  -- a place that was taken already
  pub no_more_taken : is_taken (before.places q) ≡ true → taken_in setup part ≤ taken_in setup before
  no_more_taken was = fewer (λ x. is_taken (part.places x)) (λ x. is_taken (before.places x)) (peering_numbers setup) (λ x. here_too x was)

  pub one_more_taken : taken_in setup part ≤ taken_in setup before + 1
  one_more_taken = one_more (λ x. is_taken (part.places x)) (λ x. is_taken (before.places x)) 0 (peerings_in setup) q elsewhere

-- where a session is admitted, there is room for one more
no_refusal : (held room : ℕ) (missing : Option (List ℕ)) → admit_refusal held room missing ≡ None → held < room
no_refusal held room missing e = by_test (nat_le room held) refl e where
  by_test : (b : Bool) → nat_le room held ≡ b → cond b (Some (RouterFull room)) (option_map PolicyMissing missing) ≡ None → held < room
  by_test true is f = absurd cc
  by_test false is f = grind (arith, nat_tests)

pub room_left : (setup : Setup) (r : ℕ) (part : RouterPart) (s : SessionValue) → refusal_of setup r part s ≡ None → taken_in setup part < room_of setup r
room_left setup r part s e = no_refusal (taken_in setup part) (room_of setup r) (missing_policy setup r s.config) e
