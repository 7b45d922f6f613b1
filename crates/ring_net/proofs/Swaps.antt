-- Lists whose elements changed places and changed back.
use Rattle.std.proofs.Common.{◌≡◌, ◌<◌, ℕ, List, [], ◌∷◌, length, get_or, refl, ap, sym, subst, ◌∙◌, arith, ◌⊎◌, inl, inr}
use Rattle.std.specs.Prelude.{reverse}
use Rattle.std.specs.List.{swap}
use Rattle.std.proofs.lemmas.Bool.{cases_eq}
use Rattle.std.proofs.lemmas.List.{reverse-append}
use Rattle.std.proofs.lemmas.List.Edits.{length-swap, Swapped, swapped_from_swap}
use Rattle.std.proofs.lemmas.List.Elements.{All-head, All-tail}
use Rattle.std.proofs.lemmas.List.Sorted.{All-permutation, IsPermutation-reverse}
use Rattle.std.proofs.lemmas.List.Sums.{fold-append}
use Rattle.ring_net.specs.Deals.{SwapsBelow, swapped}

-- the relation holds of the two elements at each index
abbrev pub Pairs : {X : Type 0} → (X → X → Type 0) → List X → List X → Type 0
Pairs {X} R xs ys = (k : ℕ) (d : X) → k < length xs → R (get_or xs k d) (get_or ys k d)

pub length_swapped : {X : Type 0} (xs : List X) (swaps : List (ℕ × ℕ)) → length (swapped xs swaps) ≡ length xs
length_swapped xs [] = refl
length_swapped xs (s ∷ swaps) = length_swapped (swap xs s.0 s.1) swaps ∙ length-swap xs s.0 s.1

-- what is so of a list whose elements at two indices changed places is so of the list, where those of the other list change places
unswap : {X : Type 0} (R : X → X → Type 0) (xs ys : List X) (a b : ℕ) → length ys ≡ length xs → a < length xs → b < length xs
    → Pairs R (swap xs a b) ys → (k : ℕ) (d : X) → k < length xs → R (get_or xs k d) (get_or (swap ys a b) k d)
unswap {X} R xs ys a b len in_a in_b h k d in_k = go (cases_eq k a) (cases_eq k b)
  where
    left : Swapped (λ i. get_or xs i d) (λ i. get_or (swap xs a b) i d) a b
    left = swapped_from_swap xs (swap xs a b) a b d in_a in_b refl

    right : Swapped (λ i. get_or ys i d) (λ i. get_or (swap ys a b) i d) a b
    right = swapped_from_swap ys (swap ys a b) a b d (omega (arith, len, in_a)) (omega (arith, len, in_b)) refl

    -- the element at k was at j
    at : (j : ℕ) → j < length xs → get_or (swap xs a b) j d ≡ get_or xs k d → get_or (swap ys a b) k d ≡ get_or ys j d
        → R (get_or xs k d) (get_or (swap ys a b) k d)
    at j in_j e f = subst (λ y. R (get_or xs k d) y) (sym f)
        (subst (λ x. R x (get_or ys j d)) e (h j d (omega (arith, length-swap xs a b, in_j))))

    go : (k ≡ a) ⊎ (k ≡ a → ⊥) → (k ≡ b) ⊎ (k ≡ b → ⊥) → R (get_or xs k d) (get_or (swap ys a b) k d)
    go (inl e) f = at b in_b (left.1 ∙ ap (λ j. get_or xs j d) (sym e)) (ap (λ j. get_or (swap ys a b) j d) e ∙ right.0)
    go (inr e) (inl f) = at a in_a (left.0 ∙ ap (λ j. get_or xs j d) (sym f)) (ap (λ j. get_or (swap ys a b) j d) f ∙ right.1)
    go (inr e) (inr f) = at k in_k (left.2 k e f) (right.2 k e f)

-- Where each element is related to what came to be at its index while elements had changed places, it is so when they have changed back.
pub undone : {X : Type 0} (R : X → X → Type 0) (swaps : List (ℕ × ℕ)) (xs ys : List X) → SwapsBelow (length xs) swaps → length ys ≡ length xs
    → Pairs R (swapped xs swaps) ys → Pairs R xs (swapped ys (reverse swaps))
undone {X} R [] xs ys below len h = h
undone {X} R (s ∷ swaps) xs ys below len h = subst (λ zs. Pairs R xs zs) whole
    (unswap R xs (swapped ys (reverse swaps)) s.0 s.1 (length_swapped ys (reverse swaps) ∙ len) here.0 here.1
    (undone R swaps (swap xs s.0 s.1) ys rest (len ∙ sym (length-swap xs s.0 s.1)) h))
  where
    here : (s.0 < length xs) × (s.1 < length xs)
    here = All-head (λ s. (s.0 < length xs) × (s.1 < length xs)) s swaps below

    rest : SwapsBelow (length (swap xs s.0 s.1)) swaps
    rest = subst (λ n. SwapsBelow n swaps) (sym (length-swap xs s.0 s.1))
        (All-tail (λ s. (s.0 < length xs) × (s.1 < length xs)) s swaps below)

    whole : swap (swapped ys (reverse swaps)) s.0 s.1 ≡ swapped ys (reverse (s ∷ swaps))
    whole = sym (ap (λ ss. swapped ys ss) (reverse-append (s ∷ []) swaps)
        ∙ fold-append (λ (zs : List X) (s : ℕ × ℕ). swap zs s.0 s.1) ys (reverse swaps) (s ∷ []))

-- the swaps that undo these are of a list of the same length
pub back_below : {X : Type 0} (swaps back : List (ℕ × ℕ)) (xs ys zs : List X) → SwapsBelow (length xs) swaps
    → ys ≡ swapped xs swaps → length zs ≡ length ys → back ≡ reverse swaps → SwapsBelow (length zs) back
back_below swaps back xs ys zs below first len e =
    subst (λ n. SwapsBelow n back) (sym (len ∙ ap (λ l. length l) first ∙ length_swapped xs swaps))
    (subst (λ ss. SwapsBelow (length xs) ss) (sym e) (All-permutation (λ (s : ℕ × ℕ). (s.0 < length xs) × (s.1 < length xs))
    swaps (reverse swaps) (IsPermutation-reverse swaps) below))

-- the same, over the steps of a turn
pub turned_back : {X : Type 0} (R : X → X → Type 0) (swaps back : List (ℕ × ℕ)) (xs ys zs us : List X) → SwapsBelow (length xs) swaps
    → ys ≡ swapped xs swaps → length zs ≡ length ys → Pairs R ys zs → back ≡ reverse swaps → us ≡ swapped zs back → Pairs R xs us
turned_back R swaps back xs ys zs us below first len h e second =
    let done : Pairs R xs (swapped zs (reverse swaps)) =
    undone R swaps xs zs below (len ∙ ap (λ l. length l) first ∙ length_swapped xs swaps) (subst (λ l. Pairs R l zs) first h) in
    subst (λ l. Pairs R xs l) (sym second) (subst (λ ss. Pairs R xs (swapped zs ss)) (sym e) done)
