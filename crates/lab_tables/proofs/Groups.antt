-- The groups of a script, a step at a time.
use Rattle.std.proofs.Common.{◌≡◌, ℕ, ◌+◌, ◌-◌, ◌<◌, zero, suc, Bool, true, false, cond, not, ◌||◌, List, [], ◌∷◌, ◌++◌}
use Rattle.std.proofs.Common.{length, get_or, take, drop, map, refl, sym, ap, ◌∙◌, arith, length-drop}
use Rattle.std.specs.Prelude.{reverse}
use Rattle.std.specs.List.{list_any, before_first, prefix_len}
use Rattle.std.proofs.lemmas.List.{take_more, drop_more, take_all, reverse-append}
use Rattle.toml.specs.Data.{Data}
use Rattle.lab_tables.specs.Scripts.{is_word, is_settle_word, is_evacuate, evacuates, group_from, group_before}

front_of : {A : Type 0} (q : A → Bool) (x : A) (xs : List A) → before_first q (x ∷ xs) ≡ cond (q x) [] (x ∷ before_first q xs)
front_of q x xs = by_test (q x) where
  by_test : (t : Bool) → take (cond (not t) (1 + prefix_len (λ y. not (q y)) xs) 0) (x ∷ xs) ≡ cond t [] (x ∷ take (prefix_len (λ y. not (q y)) xs) xs)
  by_test true = refl
  by_test false = let next : 1 + prefix_len (λ y. not (q y)) xs ≡ suc (prefix_len (λ y. not (q y)) xs) = omega arith in ap (λ n. take n (x ∷ xs)) next

any_if : {A : Type 0} (e : A → Bool) (t : Bool) (xs : List A) → list_any e (cond t [] xs) ≡ cond t false (list_any e xs)
any_if e true xs = refl
any_if e false xs = refl

-- whether some element passes e before the first that passes q
any_front : {A : Type 0} (q e : A → Bool) (x : A) (xs : List A)
    → list_any e (before_first q (x ∷ xs)) ≡ cond (q x) false (e x || list_any e (before_first q xs))
any_front q e x xs = ap (list_any e) (front_of q x xs) ∙ any_if e (q x) (x ∷ before_first q xs)

pub any_mapped : {A B : Type 0} (q e : B → Bool) (f : A → B) (xs : List A)
    → list_any (λ x. e (f x)) (before_first (λ x. q (f x)) xs) ≡ list_any e (before_first q (map f xs))
any_mapped q e f [] = refl
any_mapped q e f (x ∷ xs) =
    any_front (λ y. q (f y)) (λ y. e (f y)) x xs
    ∙ ap (λ t. cond (q (f x)) false (e (f x) || t)) (any_mapped q e f xs)
    ∙ sym (any_front q e (f x) (map f xs))

-- ---- one step more

abbrev Ends : Data → Bool
Ends = is_word is_settle_word

abbrev Evacuates : Data → Bool
Evacuates = is_word is_evacuate

ahead : (xs : List Data) (i : ℕ) (x : Data) → i < length xs → x ≡ get_or xs i x
    → evacuates (group_from xs i) ≡ cond (Ends x) false (Evacuates x || evacuates (group_from xs (i + 1)))
ahead xs i x within is =
    let next : drop i xs ≡ x ∷ drop (i + 1) xs = drop_more xs i x within ∙ ap (λ y. y ∷ drop (i + 1) xs) (sym is) in
    ap (λ ys. list_any Evacuates (before_first Ends ys)) next ∙ any_front Ends Evacuates x (drop (i + 1) xs)

behind : (xs : List Data) (i : ℕ) (x : Data) → i < length xs → x ≡ get_or xs i x
    → evacuates (group_before xs (i + 1)) ≡ cond (Ends x) false (Evacuates x || evacuates (group_before xs i))
behind xs i x within is =
    let next : take (i + 1) xs ≡ take i xs ++ x ∷ [] = take_more xs i x within ∙ ap (λ y. take i xs ++ y ∷ []) (sym is) in
    let back : reverse (take (i + 1) xs) ≡ x ∷ reverse (take i xs) = ap reverse next ∙ reverse-append (take i xs) (x ∷ []) in
    ap (λ ys. list_any Evacuates (before_first Ends ys)) back ∙ any_front Ends Evacuates x (reverse (take i xs))

-- what is known of the groups at a step
pub record IsGrouped (xs : List Data) (i : ℕ) (before whole : Bool) : Type 0 where
  pub before_is : before ≡ evacuates (group_before xs i)
  pub whole_is : whole ≡ (evacuates (group_before xs i) || evacuates (group_from xs i))

one_side : (e b f : Bool) → (b || (e || f)) ≡ ((e || b) || f)
one_side true true f = refl
one_side true false f = refl
one_side false true f = refl
one_side false false f = refl

whole_by : (s e b f whole next : Bool) → whole ≡ (b || cond s false (e || f)) → next ≡ cond s f whole → next ≡ (cond s false (e || b) || f)
whole_by true e b f whole next at is = is
whole_by false e b f whole next at is = is ∙ at ∙ one_side e b f

-- a settle ends a group, and the next one begins; any other step is one more of its group
pub group_next : (xs : List Data) (i : ℕ) (x : Data) (before whole before' whole' : Bool) → i < length xs → x ≡ get_or xs i x → IsGrouped xs i before whole
    → before' ≡ cond (Ends x) false (Evacuates x || before) → whole' ≡ cond (Ends x) (evacuates (group_from xs (i + 1))) whole
    → IsGrouped xs (i + 1) before' whole'
group_next xs i x before whole before' whole' within is at is_before is_whole =
    let b = evacuates (group_before xs i) in
    let f = evacuates (group_from xs (i + 1)) in
    let more : evacuates (group_before xs (i + 1)) ≡ cond (Ends x) false (Evacuates x || b) = behind xs i x within is in
    record {
      before_is = is_before ∙ ap (λ t. cond (Ends x) false (Evacuates x || t)) at.before_is ∙ sym more;
      whole_is = whole_by (Ends x) (Evacuates x) b f whole whole' (at.whole_is ∙ ap (λ t. b || t) (ahead xs i x within is)) is_whole
          ∙ ap (λ t. t || f) (sym more);
    }

-- ---- steps as the values of an array

pub any_of_mapped : {A B : Type 0} (p : B → Bool) (f : A → B) (xs : List A) → list_any (λ x. p (f x)) xs ≡ list_any p (map f xs)
any_of_mapped p f [] = refl
any_of_mapped p f (x ∷ xs) = ap (λ t. p (f x) || t) (any_of_mapped p f xs)

pub mapped_get : {A B : Type 0} (f : A → B) (xs : List A) (i : ℕ) (x : A) → i < length xs → x ≡ get_or xs i x → f x ≡ get_or (map f xs) i (f x)
mapped_get f [] i x within is = absurd (omega arith)
mapped_get f (y ∷ xs) zero x within is = ap f is
mapped_get f (y ∷ xs) (suc i) x within is = mapped_get f xs i x (omega arith) is

pub mapped_drop : {A B : Type 0} (f : A → B) (xs : List A) (i : ℕ) → drop i (map f xs) ≡ map f (drop i xs)
mapped_drop f xs zero = refl
mapped_drop f [] (suc i) = refl
mapped_drop f (x ∷ xs) (suc i) = mapped_drop f xs i

-- what stands from an index on is all of that
pub rest_whole : {A : Type 0} (xs : List A) (k : ℕ) → take (length xs - k) (drop k xs) ≡ drop k xs
rest_whole xs k = take_all (length xs - k) (drop k xs) (omega (arith, length-drop k xs))
