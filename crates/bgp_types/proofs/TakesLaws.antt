-- What things one after another take from the front.
use Rattle.std.proofs.Common.{◌≡◌, ℕ, zero, suc, List, [], ◌∷◌, ◌++◌, length, Option, Some, None, refl, sym, ap, ◌∙◌, append_assoc, subst}
use Rattle.std.proofs.lemmas.List.{append-nil}
use Rattle.std.proofs.lemmas.Option.{same_Some}
use Rattle.std.specs.List.{flat_map, AllByRecursion}
use Rattle.bgp_types.specs.Many.{one_more, many_within, many, if_whole, all_of}

-- one thing is taken from the front
pub record TakesOne {A : Type 0} (P : List ℕ → Type 0) (one : List ℕ → Option (A × List ℕ))
    (spell : A → List ℕ) (Fits : A → Type 0) (bytes : List ℕ) (x : A × List ℕ) : Type 0 where
  pub parts : bytes ≡ spell x.0 ++ x.1
  pub fits : Fits x.0
  pub rest : P x.1

-- bytes are things, and what is left
pub record TakesMany {A : Type 0} (spell : A → List ℕ) (Fits : A → Type 0) (bytes : List ℕ) (m : List A × List ℕ) : Type 0 where
  pub parts : bytes ≡ flat_map spell m.0 ++ m.1
  pub fits : AllByRecursion Fits m.0

more_takes : {A : Type 0} (P : List ℕ → Type 0) (one : List ℕ → Option (A × List ℕ)) (spell : A → List ℕ)
    (Fits : A → Type 0) (r : Option (A × List ℕ)) (bytes : List ℕ) (f : List ℕ → List A × List ℕ)
    → ((x : A × List ℕ) → r ≡ Some x → TakesOne P one spell Fits bytes x) → ((b : List ℕ) → P b → TakesMany spell Fits b (f b))
    → TakesMany spell Fits bytes (one_more r bytes f)
more_takes P one spell Fits None bytes f h g = record { parts = refl; fits = tt }
more_takes {A} P one spell Fits (Some x) bytes f h g =
    let t = h x refl in
    let m = g x.1 t.rest in
    record {
      parts = t.parts ∙ (ap (λ (y : List ℕ). spell x.0 ++ y) m.parts ∙ sym (append_assoc (spell x.0) (flat_map spell (f x.1).0) (f x.1).1));
      fits = (t.fits, m.fits);
    }

within_takes : {A : Type 0} (P : List ℕ → Type 0) (one : List ℕ → Option (A × List ℕ)) (spell : A → List ℕ) (Fits : A → Type 0)
    → ((bytes : List ℕ) (x : A × List ℕ) → P bytes → one bytes ≡ Some x → TakesOne P one spell Fits bytes x)
    → (n : ℕ) (bytes : List ℕ) → P bytes → TakesMany spell Fits bytes (many_within one n bytes)
unfolding many_within
within_takes P one spell Fits h zero bytes b = record { parts = refl; fits = tt }
within_takes P one spell Fits h (suc n) bytes b =
    more_takes P one spell Fits (one bytes) bytes (many_within one n) (λ x e. h bytes x b e) (λ c d. within_takes P one spell Fits h n c d)

pub many_takes : {A : Type 0} (P : List ℕ → Type 0) (one : List ℕ → Option (A × List ℕ)) (spell : A → List ℕ) (Fits : A → Type 0)
    → ((bytes : List ℕ) (x : A × List ℕ) → P bytes → one bytes ≡ Some x → TakesOne P one spell Fits bytes x)
    → (bytes : List ℕ) → P bytes → TakesMany spell Fits bytes (many one bytes)
unfolding many
many_takes P one spell Fits h bytes b = within_takes P one spell Fits h (length bytes) bytes b

-- where things are all of the bytes
pub all_taken : {A : Type 0} (P : List ℕ → Type 0) (one : List ℕ → Option (A × List ℕ)) (spell : A → List ℕ) (Fits : A → Type 0)
    → ((bytes : List ℕ) (x : A × List ℕ) → P bytes → one bytes ≡ Some x → TakesOne P one spell Fits bytes x)
    → (bytes : List ℕ) (xs : List A) → P bytes → all_of one bytes ≡ Some xs → (bytes ≡ flat_map spell xs) × AllByRecursion Fits xs
all_taken {A} P one spell Fits h bytes xs b e = whole_is (many one bytes).0 (many one bytes).1 e (many_takes P one spell Fits h bytes b) where
  whole_is : (ys : List A) (rest : List ℕ) → if_whole ys rest ≡ Some xs → TakesMany spell Fits bytes (ys, rest)
      → (bytes ≡ flat_map spell xs) × AllByRecursion Fits xs
  whole_is ys [] e t = let s = same_Some ys xs e in
      subst (λ (zs : List A). (bytes ≡ flat_map spell zs) × AllByRecursion Fits zs) s (t.parts ∙ append-nil (flat_map spell ys), t.fits)
  whole_is ys (r ∷ rest) e t = absurd cc
