-- What holds of things that stand one after another, whatever they are.
use Rattle.std.proofs.Common.{◌≡◌, ℕ, zero, suc, ◌<◌, ◌≤◌, List, [], ◌∷◌, ◌++◌, length, Bool, true, false}
use Rattle.std.proofs.Common.{cond, Option, Some, None, refl, sym, ap, ◌∙◌, append_assoc, arith}
use Rattle.std.specs.Prelude.{◌||◌}
use Rattle.std.specs.List.{flat_map, AllByRecursion}
use Rattle.std.proofs.lemmas.List.{append-nil}
use Rattle.bgp_types.specs.Many.{one_more, many_within, many, if_whole, all_of}

pub kept_out : {A : Type 0} (b : Bool) (o : Option A) (x : A) → cond b None o ≡ Some x → (b ≡ false) × (o ≡ Some x)
kept_out true o x e = absurd cc
kept_out false o x e = (refl, e)

pub either_false : (t u : Bool) → (t || u) ≡ false → (t ≡ false) × (u ≡ false)
either_false true u e = absurd cc
either_false false u e = (refl, e)

-- the bytes after a thing are fewer
pub record Shortens {A : Type 0} (one : List ℕ → Option (A × List ℕ)) : Type 0 where
  pub shorter : (bytes : List ℕ) (x : A × List ℕ) → one bytes ≡ Some x → length x.1 < length bytes

same_more : {A : Type 0} (r : Option (A × List ℕ)) (bytes : List ℕ) (f g : List ℕ → List A × List ℕ)
    → ((x : A × List ℕ) → r ≡ Some x → f x.1 ≡ g x.1) → one_more r bytes f ≡ one_more r bytes g
same_more None bytes f g h = refl
same_more {A} (Some x) bytes f g h = ap (λ (y : List A × List ℕ). (x.0 ∷ y.0, y.1)) (h x refl)

none_more : {A : Type 0} (r : Option (A × List ℕ)) (bytes : List ℕ) (f : List ℕ → List A × List ℕ) → ((x : A × List ℕ) → r ≡ Some x → ⊥)
    → one_more r bytes f ≡ ([], bytes)
none_more None bytes f h = refl
none_more (Some x) bytes f h = absurd (h x refl)

enough : {A : Type 0} (one : List ℕ → Option (A × List ℕ)) → Shortens one → (n m : ℕ) (bytes : List ℕ) → length bytes ≤ n → length bytes ≤ m
    → many_within one n bytes ≡ many_within one m bytes
unfolding many_within
enough one s zero zero bytes l k = refl
enough one s zero (suc m) [] l k = sym (none_more (one []) [] (many_within one m) (λ x e. omega (arith, s.shorter [] x e)))
enough one s zero (suc m) (b ∷ bytes) l k = absurd (omega arith)
enough one s (suc n) zero [] l k = none_more (one []) [] (many_within one n) (λ x e. omega (arith, s.shorter [] x e))
enough one s (suc n) zero (b ∷ bytes) l k = absurd (omega arith)
enough one s (suc n) (suc m) bytes l k =
    same_more (one bytes) bytes (many_within one n) (many_within one m)
    (λ x e. enough one s n m x.1 (omega (arith, s.shorter bytes x e)) (omega (arith, s.shorter bytes x e)))

pub many_none : {A : Type 0} (one : List ℕ → Option (A × List ℕ)) (bytes : List ℕ) → one bytes ≡ None → many one bytes ≡ ([], bytes)
unfolding many many_within
many_none one [] e = refl
many_none {A} one (b ∷ bytes) e = ap (λ (r : Option (A × List ℕ)). one_more r (b ∷ bytes) (many_within one (length bytes))) e

pub many_some : {A : Type 0} (one : List ℕ → Option (A × List ℕ)) → Shortens one → (bytes : List ℕ) (x : A × List ℕ) → one bytes ≡ Some x
    → many one bytes ≡ (x.0 ∷ (many one x.1).0, (many one x.1).1)
unfolding many many_within
many_some one s [] x e = absurd (omega (arith, s.shorter [] x e))
many_some {A} one s (b ∷ bytes) x e =
    ap (λ (r : Option (A × List ℕ)). one_more r (b ∷ bytes) (many_within one (length bytes))) e
    ∙ ap (λ (y : List A × List ℕ). (x.0 ∷ y.0, y.1)) (enough one s (length bytes) (length x.1) x.1 (omega (arith, s.shorter (b ∷ bytes) x e)) (omega arith))

-- things that were read before, and what is read of the rest
abbrev pub after : {A : Type 0} → List A → List A × List ℕ → List A × List ℕ
after xs m = (xs ++ m.0, m.1)

pub after_more : {A : Type 0} (one : List ℕ → Option (A × List ℕ)) → Shortens one
    → (front : List A) (bytes : List ℕ) (x : A × List ℕ) (total : List A × List ℕ) → one bytes ≡ Some x → after front (many one bytes) ≡ total
    → after (front ++ x.0 ∷ []) (many one x.1) ≡ total
after_more {A} one s front bytes x total e so_far =
    ap (λ (ys : List A). (ys, (many one x.1).1)) (append_assoc front (x.0 ∷ []) (many one x.1).0)
    ∙ (sym (ap (after front) (many_some one s bytes x e)) ∙ so_far)

pub after_stop : {A : Type 0} (one : List ℕ → Option (A × List ℕ)) (front : List A) (bytes : List ℕ) (total : List A × List ℕ) → one bytes ≡ None
    → after front (many one bytes) ≡ total → total ≡ (front, bytes)
after_stop {A} one front bytes total e so_far = sym so_far ∙ (ap (after front) (many_none one bytes e) ∙ ap (λ (ys : List A). (ys, bytes)) (append-nil front))

-- how one thing is spelled
pub record Reads {A : Type 0} (one : List ℕ → Option (A × List ℕ)) (spell : A → List ℕ) (Fits : A → Type 0) : Type 0 where
  pub shortens : Shortens one
  pub again : (x : A) (rest : List ℕ) → Fits x → one (spell x ++ rest) ≡ Some (x, rest)

pub many_again : {A : Type 0} (one : List ℕ → Option (A × List ℕ)) (spell : A → List ℕ) (Fits : A → Type 0) → Reads one spell Fits
    → (xs : List A) (rest : List ℕ) → AllByRecursion Fits xs → one rest ≡ None → many one (flat_map spell xs ++ rest) ≡ (xs, rest)
many_again one spell Fits r [] rest fits e = many_none one rest e
many_again {A} one spell Fits r (x ∷ xs) rest fits e =
    ap (many one) (append_assoc (spell x) (flat_map spell xs) rest)
    ∙ (many_some one r.shortens (spell x ++ (flat_map spell xs ++ rest)) (x, flat_map spell xs ++ rest) (r.again x (flat_map spell xs ++ rest) fits.0)
    ∙ ap (λ (y : List A × List ℕ). (x ∷ y.0, y.1)) (many_again one spell Fits r xs rest fits.1 e))

pub all_again : {A : Type 0} (one : List ℕ → Option (A × List ℕ)) (spell : A → List ℕ) (Fits : A → Type 0) → Reads one spell Fits → (xs : List A)
    → AllByRecursion Fits xs → one [] ≡ None → all_of one (flat_map spell xs) ≡ Some xs
all_again {A} one spell Fits r xs fits e =
    let whole : many one (flat_map spell xs) ≡ (xs, []) = ap (many one) (sym (append-nil (flat_map spell xs))) ∙ many_again one spell Fits r xs [] fits e in
    ap (λ (m : List A × List ℕ). if_whole m.0 m.1) whole

-- things in front of any bytes
pub many_front : {A : Type 0} (one : List ℕ → Option (A × List ℕ)) (spell : A → List ℕ) (Fits : A → Type 0) → Reads one spell Fits
    → (xs : List A) (rest : List ℕ) → AllByRecursion Fits xs → many one (flat_map spell xs ++ rest) ≡ after xs (many one rest)
many_front {A} one spell Fits r [] rest fits = refl
many_front {A} one spell Fits r (x ∷ xs) rest fits =
    ap (many one) (append_assoc (spell x) (flat_map spell xs) rest)
    ∙ (many_some one r.shortens (spell x ++ (flat_map spell xs ++ rest)) (x, flat_map spell xs ++ rest) (r.again x (flat_map spell xs ++ rest) fits.0)
    ∙ ap (λ (y : List A × List ℕ). (x ∷ y.0, y.1)) (many_front one spell Fits r xs rest fits.1))
