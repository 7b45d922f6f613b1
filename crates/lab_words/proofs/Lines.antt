-- A line, word by word.
use Rattle.std.proofs.Common.{◌≡◌, ℕ, zero, suc, ◌+◌, List, [], ◌∷◌, ◌++◌, take, map, ap, ◌∙◌, sym, Some, None, add-one}
use Rattle.std.specs.Prelude.{slice_get}
use Rattle.std.proofs.lemmas.List.{map-append}

no_none : {A B : Type 0} (x : A) → None ≡ Some x → B
no_none x is = absurd (let e : ⊥ = cc in e)

take_get : {A : Type 0} (k : ℕ) (xs : List A) (x : A) → slice_get xs k ≡ Some x → take k xs ++ x ∷ [] ≡ take (suc k) xs
take_get zero [] x is = no_none x is
take_get {A} zero (y ∷ ys) x is = let e : y ≡ x = cc in ap (λ (z : A). z ∷ []) (sym e)
take_get (suc k) [] x is = no_none x is
take_get {A} (suc k) (y ∷ ys) x is = ap (λ (zs : List A). y ∷ zs) (take_get k ys x is)

-- one word more
pub line_more : {X A : Type 0} (now : X → A) (first : A) (items more : List X) (words : List A) (k : ℕ) (x : X) (w : A)
    → map now items ≡ first ∷ take k words → more ≡ items ++ x ∷ [] → w ≡ now x → slice_get words k ≡ Some w → map now more ≡ first ∷ take (k + 1) words
line_more {X} {A} now first items more words k x w so_far is same get =
    ap (map now) is ∙ map-append now items (x ∷ []) ∙ ap (λ (l : List A). l ++ now x ∷ []) so_far
    ∙ ap (λ (z : A). (first ∷ take k words) ++ z ∷ []) (sym same)
    ∙ ap (λ (l : List A). first ∷ l) (take_get k words w get ∙ ap (λ (n : ℕ). take n words) (sym (add-one k)))
