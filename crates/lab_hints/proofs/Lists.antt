-- Lists that grow by what one member more gives.
use Rattle.std.proofs.Common.{◌≡◌, ℕ, ◌+◌, ◌<◌, List, [], ◌∷◌, ◌++◌, length, map, take, drop, sym, ap, ◌∙◌, append_assoc, append-nil, get_or, slice_index_or}
use Rattle.std.specs.Prelude.{Option, Some, None}
use Rattle.std.specs.Option.{option_or}
use Rattle.std.specs.List.{flat_map}
use Rattle.std.proofs.lemmas.List.{take_more, drop_more, map-append}
use Rattle.std.proofs.lemmas.Grind.{flat_map-append}
use Rattle.lab_keys.specs.Kinds.{each_from}

longer : {A : Type 0} (xs : List A) (i : ℕ) (x : A) → i < length xs → x ≡ slice_index_or xs i x → take (i + 1) xs ≡ take i xs ++ x ∷ []
longer {A} xs i x lt at = take_more xs i x lt ∙ ap (λ (y : A). take i xs ++ y ∷ []) (sym at)

grown : {A B : Type 0} (g : A → List B) (xs more : List A) (x : A) → more ≡ xs ++ x ∷ [] → flat_map g more ≡ flat_map g xs ++ g x
grown {A} {B} g xs more x is =
    ap (flat_map g) is ∙ flat_map-append g xs (x ∷ []) ∙ ap (λ (l : List B). flat_map g xs ++ l) (append-nil (g x))

-- a piece behind those that were written before
pub joined : (start now before piece : List ℕ) → now ≡ start ++ before → now ++ piece ≡ start ++ (before ++ piece)
joined start now before piece so = ap (λ (l : List ℕ). l ++ piece) so ∙ append_assoc start before piece

pub behind : (start now next before piece : List ℕ) → now ≡ start ++ before → next ≡ now ++ piece → next ≡ start ++ (before ++ piece)
behind start now next before piece so is = is ∙ joined start now before piece so

-- a text
pub text_more : {A : Type 0} (f : A → List ℕ) (xs : List A) (i : ℕ) (d : A) (before so_far after : List ℕ) → i < length xs
    → so_far ≡ before ++ flat_map f (take i xs) → after ≡ so_far ++ f (get_or xs i d) → after ≡ before ++ flat_map f (take (i + 1) xs)
text_more f xs i d before so_far after lt so is =
    behind before so_far after (flat_map f (take i xs)) (f (get_or xs i d)) so is
    ∙ ap (λ (l : List ℕ). before ++ l) (sym (grown f (take i xs) (take (i + 1) xs) (get_or xs i d) (take_more xs i d lt)))

-- names, as v reads them
pub names_more : {A B N : Type 0} (v : B → N) (f : A → N) (xs : List A) (i : ℕ) (x : A) (y : B) (so_far after : List B)
    → i < length xs → x ≡ slice_index_or xs i x → map v so_far ≡ map f (take i xs) → after ≡ so_far ++ y ∷ [] → v y ≡ f x
    → map v after ≡ map f (take (i + 1) xs)
names_more {A} {B} {N} v f xs i x y so_far after lt at so is same =
    ap (map v) is ∙ map-append v so_far (y ∷ []) ∙ ap (λ (l : List N). l ++ v y ∷ []) so ∙ ap (λ (n : N). map f (take i xs) ++ n ∷ []) same
    ∙ sym (ap (map f) (longer xs i x lt at) ∙ map-append f (take i xs) (x ∷ []))

pub lists_more : {A B N : Type 0} (v : B → N) (g : A → List N) (xs : List A) (i : ℕ) (x : A) (more so_far after : List B)
    → i < length xs → x ≡ slice_index_or xs i x → map v so_far ≡ flat_map g (take i xs) → after ≡ so_far ++ more → map v more ≡ g x
    → map v after ≡ flat_map g (take (i + 1) xs)
lists_more {A} {B} {N} v g xs i x more so_far after lt at so is same =
    ap (map v) is ∙ map-append v so_far more ∙ ap (λ (l : List N). l ++ map v more) so ∙ ap (λ (l : List N). flat_map g (take i xs) ++ l) same
    ∙ sym (grown g (take i xs) (take (i + 1) xs) x (longer xs i x lt at))

pub names_joined : {B N : Type 0} (v : B → N) (xs ys after : List B) (ns ms : List N) → after ≡ xs ++ ys → map v xs ≡ ns → map v ys ≡ ms
    → map v after ≡ ns ++ ms
names_joined {B} {N} v xs ys after ns ms is here there =
    ap (map v) is ∙ map-append v xs ys ∙ ap (λ (l : List N). l ++ map v ys) here ∙ ap (λ (l : List N). ns ++ l) there

-- ---- the first of several things

module _ {A E : Type 0} (f : ℕ → A → Option E) (xs : List A) (i : ℕ) (x : A) (within : i < length xs) (is : x ≡ slice_index_or xs i x) where
  from_next : drop i xs ≡ x ∷ drop (i + 1) xs
  from_next = drop_more xs i x within ∙ ap (λ y. y ∷ drop (i + 1) xs) (sym is)

  -- one more that isn't such a thing
  pub each_goes_on : (whole : Option E) → each_from f i (drop i xs) ≡ whole → None ≡ f i x → each_from f (i + 1) (drop (i + 1) xs) ≡ whole
  each_goes_on whole so_far none = ap (λ o. option_or o (each_from f (i + 1) (drop (i + 1) xs))) none ∙ sym (ap (each_from f i) from_next) ∙ so_far

  pub each_stops : (found : E) (whole : Option E) → each_from f i (drop i xs) ≡ whole → Some found ≡ f i x → Some found ≡ whole
  each_stops found whole so_far some = ap (λ o. option_or o (each_from f (i + 1) (drop (i + 1) xs))) some ∙ sym (ap (each_from f i) from_next) ∙ so_far
