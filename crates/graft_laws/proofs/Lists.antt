-- Lists whose items all have a property, and what filters leave.
use Rattle.std.proofs.Common.{◌≡◌, Bool, true, false, cond, List, [], ◌∷◌, ◌++◌, Option, Some, refl, sym, ap, ◌∙◌, subst, arith, ◌⊎◌, inl, inr, append_assoc}
use Rattle.std.specs.Prelude.{filter, ◌&&◌}
use Rattle.std.specs.List.{AllByRecursion, find, last_or}

-- ---- all of a list

pub all_of : {A : Type 0} (P : A → Type 0) (xs : List A) → ((x : A) → P x) → AllByRecursion P xs
all_of P [] h = tt
all_of P (x ∷ xs) h = (h x, all_of P xs h)

pub all_map : {A : Type 0} (P Q : A → Type 0) (xs : List A) → ((x : A) → P x → Q x) → AllByRecursion P xs → AllByRecursion Q xs
all_map P Q [] h all = tt
all_map P Q (x ∷ xs) h all = (h x all.0, all_map P Q xs h all.1)

-- from two facts of each item a third
pub all_both : {A : Type 0} (P Q R : A → Type 0) (xs : List A) → ((x : A) → P x → Q x → R x) → AllByRecursion P xs → AllByRecursion Q xs → AllByRecursion R xs
all_both P Q R [] h a b = tt
all_both P Q R (x ∷ xs) h a b = (h x a.0 b.0, all_both P Q R xs h a.1 b.1)

pub all_front : {A : Type 0} (P : A → Type 0) (xs ys : List A) → AllByRecursion P (xs ++ ys) → AllByRecursion P xs
all_front P [] ys all = tt
all_front P (x ∷ xs) ys all = (all.0, all_front P xs ys all.1)

pub all_back : {A : Type 0} (P : A → Type 0) (xs ys : List A) → AllByRecursion P (xs ++ ys) → AllByRecursion P ys
all_back P [] ys all = all
all_back P (x ∷ xs) ys all = all_back P xs ys all.1

pub all_join : {A : Type 0} (P : A → Type 0) (xs ys : List A) → AllByRecursion P xs → AllByRecursion P ys → AllByRecursion P (xs ++ ys)
all_join P [] ys a b = b
all_join P (x ∷ xs) ys a b = (a.0, all_join P xs ys a.1 b)

-- ---- channels: what was taken and what is left are what was there and what was sent

-- a property of all items of a channel is kept where what is sent has it
pub all_moves : {A : Type 0} (P : A → Type 0) (taken left was sent : List A) → taken ++ left ≡ was ++ sent → AllByRecursion P was
    → AllByRecursion P sent → AllByRecursion P left
all_moves P taken left was sent e a b = all_back P taken left (subst (λ (x : List _). AllByRecursion P x) (sym e) (all_join P was sent a b))

-- the head of a channel has the property that all its items have
pub all_head : {A : Type 0} (P : A → Type 0) (items rest : List A) (item : A) → items ≡ item ∷ rest → AllByRecursion P items → P item
all_head P items rest item e all = let h : AllByRecursion P (item ∷ rest) = subst (λ (x : List _). AllByRecursion P x) e all in h.0

-- ---- what is found

find_all_step : {A : Type 0} (P : A → Type 0) (y x : A) (b : Bool) (rest : Option A) → P y → (rest ≡ Some x → P x) → cond b (Some y) rest ≡ Some x → P x
find_all_step P y x true rest here later e = subst P (let f : y ≡ x = cc in f) here
find_all_step P y x false rest here later e = later e

-- what is found has the property that all items have
pub find_all : {A : Type 0} (P : A → Type 0) (test : A → Bool) (xs : List A) (x : A) → AllByRecursion P xs → find test xs ≡ Some x → P x
find_all P test [] x all e = absurd cc
find_all P test (y ∷ xs) x all e = find_all_step P y x (test y) (find test xs) all.0 (λ f. find_all P test xs x all.1 f) e

-- ---- filters

filter_all_step : {A : Type 0} (P : A → Type 0) (test : A → Bool) (x : A) (b : Bool) (rest : List A) → P x → AllByRecursion P rest
    → AllByRecursion P (cond b (x ∷ rest) rest)
filter_all_step P test x true rest here all = (here, all)
filter_all_step P test x false rest here all = all

pub filter_all : {A : Type 0} (P : A → Type 0) (test : A → Bool) (xs : List A) → AllByRecursion P xs → AllByRecursion P (filter test xs)
filter_all P test [] all = tt
filter_all P test (x ∷ xs) all = filter_all_step P test x (test x) (filter test xs) all.0 (filter_all P test xs all.1)

filter_tests_step : {A : Type 0} (test : A → Bool) (x : A) (b : Bool) (rest : List A) → test x ≡ b → AllByRecursion (λ y. test y ≡ true) rest
    → AllByRecursion (λ y. test y ≡ true) (cond b (x ∷ rest) rest)
filter_tests_step test x true rest is all = (is, all)
filter_tests_step test x false rest is all = all

-- what a filter leaves passes its test
pub filter_tests : {A : Type 0} (test : A → Bool) (xs : List A) → AllByRecursion (λ x. test x ≡ true) (filter test xs)
filter_tests test [] = tt
filter_tests test (x ∷ xs) = filter_tests_step test x (test x) (filter test xs) refl (filter_tests test xs)

filter_same_step : {A : Type 0} (f g : A → Bool) (x : A) (xs : List A) → f x ≡ g x → filter f xs ≡ filter g xs → filter f (x ∷ xs) ≡ filter g (x ∷ xs)
filter_same_step f g x xs e h = grind arith

-- two tests that agree on a list leave the same of it
pub filter_same : {A : Type 0} (f g : A → Bool) (xs : List A) → AllByRecursion (λ x. f x ≡ g x) xs → filter f xs ≡ filter g xs
filter_same f g [] all = refl
filter_same f g (x ∷ xs) all = filter_same_step f g x xs all.0 (filter_same f g xs all.1)

filter_twice_step : {A : Type 0} (f g : A → Bool) (x : A) (xs : List A) → filter (λ y. f y && g y) xs ≡ filter g (filter f xs)
    → filter (λ y. f y && g y) (x ∷ xs) ≡ filter g (filter f (x ∷ xs))
filter_twice_step f g x xs h = grind arith

pub filter_twice : {A : Type 0} (f g : A → Bool) (xs : List A) → filter (λ x. f x && g x) xs ≡ filter g (filter f xs)
filter_twice f g [] = refl
filter_twice f g (x ∷ xs) = filter_twice_step f g x xs (filter_twice f g xs)

filter_none_step : {A : Type 0} (f : A → Bool) (x : A) (xs : List A) → f x ≡ false → filter f xs ≡ [] → filter f (x ∷ xs) ≡ []
filter_none_step f x xs e h = grind arith

pub filter_none : {A : Type 0} (f : A → Bool) (xs : List A) → AllByRecursion (λ x. f x ≡ false) xs → filter f xs ≡ []
filter_none f [] all = refl
filter_none f (x ∷ xs) all = filter_none_step f x xs all.0 (filter_none f xs all.1)

pub last_end : {A : Type 0} (d : Option A) (xs : List A) (y : A) → last_or d (xs ++ y ∷ []) ≡ Some y
last_end d [] y = refl
last_end d (x ∷ xs) y = last_end (Some x) xs y

-- ---- ends of lists

pub append_same : {A : Type 0} (xs ys zs : List A) → xs ++ ys ≡ xs ++ zs → ys ≡ zs
append_same [] ys zs e = e
append_same (x ∷ xs) ys zs e = append_same xs ys zs (let f : xs ++ ys ≡ xs ++ zs = cc in f)

-- ---- where an item stands

-- in two lists that are joined
abbrev pub StandsIn : {A : Type 0} → List A → List A → List A → List A → A → Type 0
StandsIn {A = A} xs ys us vs z = ((ws : List A) × (xs ≡ us ++ z ∷ ws)) ⊎ ((ws : List A) × (us ≡ xs ++ ws) × (ys ≡ ws ++ z ∷ vs))

pub stands_in : {A : Type 0} (xs ys us vs : List A) (z : A) → xs ++ ys ≡ us ++ z ∷ vs → StandsIn xs ys us vs z
stands_in [] ys us vs z e = inr (us, refl, e)
stands_in (x ∷ xs) ys [] vs z e = inl (xs, (let f : x ≡ z = cc in ap (λ y. y ∷ xs) f))
stands_in (x ∷ xs) ys (u ∷ us) vs z e = behind (stands_in xs ys us vs z (let g : xs ++ ys ≡ us ++ z ∷ vs = cc in g)) where
  same : x ≡ u
  same = cc

  behind : StandsIn xs ys us vs z → StandsIn (x ∷ xs) ys (u ∷ us) vs z
  behind (inl (ws, f)) = inl (ws, ap (λ y. y ∷ xs) same ∙ ap (λ (l : List _). u ∷ l) f)
  behind (inr (ws, f, g)) = inr (ws, ap (λ y. y ∷ us) (sym same) ∙ ap (λ (l : List _). x ∷ l) f, g)

-- in a list of one
pub alone : {A : Type 0} (item z : A) (ws vs : List A) → item ∷ [] ≡ ws ++ z ∷ vs → (ws ≡ []) × (item ≡ z) × (vs ≡ [])
alone item z [] vs e = (refl, cc, cc)
alone item z (w ∷ []) vs e = absurd cc
alone item z (w ∷ u ∷ ws) vs e = absurd cc

pub none_stands : {A : Type 0} (z : A) (ws vs : List A) → [] ≡ ws ++ z ∷ vs → ⊥
none_stands z [] vs e = cc
none_stands z (w ∷ ws) vs e = cc

-- all of a list, by where each stands
pub all_standing : {A : Type 0} (P : A → Type 0) (xs : List A) → ((z : A) (ws vs : List A) → xs ≡ ws ++ z ∷ vs → P z) → AllByRecursion P xs
all_standing P [] each = tt
all_standing P (x ∷ xs) each = (each x [] xs refl, all_standing P xs (λ z ws vs e. each z (x ∷ ws) vs (ap (λ (ys : List _). x ∷ ys) e)))

-- what stands behind an item in two joined lists, where it stands in the first
pub behind_in : {A : Type 0} (xs ys us vs ws : List A) (z : A) → xs ++ ys ≡ us ++ z ∷ vs → xs ≡ us ++ z ∷ ws → vs ≡ ws ++ ys
behind_in xs ys us vs ws z e f =
    let g : z ∷ vs ≡ z ∷ (ws ++ ys) = append_same us (z ∷ vs) (z ∷ (ws ++ ys)) (sym e ∙ ap (λ (l : List _). l ++ ys) f ∙ append_assoc us (z ∷ ws) ys) in cc
