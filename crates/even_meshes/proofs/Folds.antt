-- The best of a list that grows.
use Rattle.std.proofs.Common.{◌≡◌, Bool, true, false, not, ◌||◌, cond, List, [], ◌∷◌, ◌++◌, Option, Some, None, refl, ap, ◌∙◌}
use Rattle.std.specs.Prelude.{option_map}
use Rattle.std.specs.List.{list_any, filter, fold, AllByRecursion}
use Rattle.decision_core.specs.Search.{pick}
use Rattle.decision_core.specs.Choice.{keep}

-- this holds of what there is
abbrev pub IfAny : {X : Type 0} → (X → Type 0) → Option X → Type 0
IfAny P None = Unit {0}
IfAny P (Some x) = P x

pub all_append : {X : Type 0} (P : X → Type 0) (xs ys : List X) → AllByRecursion P xs → AllByRecursion P ys → AllByRecursion P (xs ++ ys)
all_append P [] ys h k = k
all_append P (x ∷ xs) ys h k = (h.0, all_append P xs ys h.1 k)

all_cond : {X : Type 0} (P : X → Type 0) (b : Bool) (x : X) (xs : List X) → P x → AllByRecursion P xs → AllByRecursion P (cond b (x ∷ xs) xs)
all_cond P true x xs h k = (h, k)
all_cond P false x xs h k = k

pub all_filter : {X : Type 0} (P : X → Type 0) (t : X → Bool) (xs : List X) → AllByRecursion P xs → AllByRecursion P (filter t xs)
all_filter P t [] h = tt
all_filter P t (x ∷ xs) h = all_cond P (t x) x (filter t xs) h.0 (all_filter P t xs h.1)

pub all_keep : {X : Type 0} (P : X → Type 0) (rule : X → X → Bool) (xs : List X) → AllByRecursion P xs → AllByRecursion P (keep rule xs)
unfolding keep
all_keep P rule xs h = all_filter P (λ x. not (list_any (λ y. rule y x) xs)) xs h

pub all_imply : {X : Type 0} (P Q : X → Type 0) → ((x : X) → P x → Q x) → (xs : List X) → AllByRecursion P xs → AllByRecursion Q xs
all_imply P Q h [] k = tt
all_imply P Q h (x ∷ xs) k = (h x k.0, all_imply P Q h xs k.1)

pub all_each : {X : Type 0} (P : X → Type 0) → ((x : X) → P x) → (xs : List X) → AllByRecursion P xs
all_each P h [] = tt
all_each P h (x ∷ xs) = (h x, all_each P h xs)

pub all_both : {X : Type 0} (P Q : X → Type 0) (xs : List X) → AllByRecursion P xs → AllByRecursion Q xs → AllByRecursion (λ x. P x × Q x) xs
all_both P Q [] h k = tt
all_both P Q (x ∷ xs) h k = ((h.0, k.0), all_both P Q xs h.1 k.1)

pub if_map : {X Y : Type 0} (f : X → Y) (P : Y → Type 0) (o : Option X) → IfAny (λ x. P (f x)) o → IfAny P (option_map f o)
if_map f P None h = tt
if_map f P (Some x) h = h

-- ---- a fold of picks

cond_P : {X : Type 0} (P : X → Type 0) (b : Bool) (x y : X) → P x → P y → P (cond b x y)
cond_P P true x y h k = h
cond_P P false x y h k = k

pub picks_all : {X : Type 0} (P : X → Type 0) (lt : X → X → Bool) (o : Option X) (xs : List X)
    → IfAny P o → AllByRecursion P xs → IfAny P (fold (pick lt) o xs)
picks_all P lt o [] h k = h
picks_all P lt None (x ∷ xs) h k = picks_all P lt (Some x) xs k.0 k.1
picks_all P lt (Some y) (x ∷ xs) h k = picks_all P lt (Some (cond (lt x y) x y)) xs (cond_P P (lt x y) x y k.0 h) k.1

or_none : (a b : Bool) → (a || b) ≡ false → (a ≡ false) × (b ≡ false)
or_none true b h = absurd cc
or_none false b h = (refl, h)

-- nothing is better than the best so far: it stays
pub picks_stay : {X : Type 0} (lt : X → X → Bool) (x : X) (ys : List X) → list_any (λ y. lt y x) ys ≡ false → fold (pick lt) (Some x) ys ≡ Some x
picks_stay lt x [] h = refl
picks_stay lt x (y ∷ ys) h =
    let parts = or_none (lt y x) (list_any (λ y. lt y x) ys) h in
    ap (λ b. fold (pick lt) (Some (cond b y x)) ys) parts.0 ∙ picks_stay lt x ys parts.1

-- one of those that come is better: the best is one of these
pub picks_new : {X : Type 0} (P : X → Type 0) (lt : X → X → Bool) (x : X) (ys : List X)
    → AllByRecursion P ys → list_any (λ y. lt y x) ys ≡ true → IfAny P (fold (pick lt) (Some x) ys)
picks_new P lt x [] h k = absurd cc
picks_new P lt x (y ∷ ys) h k = by_test (lt y x) k (λ some. picks_new P lt x ys h.1 some)
  where
    by_test : (b : Bool) → (b || list_any (λ z. lt z x) ys) ≡ true → (list_any (λ z. lt z x) ys ≡ true → IfAny P (fold (pick lt) (Some x) ys))
        → IfAny P (fold (pick lt) (Some (cond b y x)) ys)
    by_test true some rest = picks_all P lt (Some y) ys h.0 h.1
    by_test false some rest = rest some

-- ---- tests of lists

pub filter_whole : {X : Type 0} (t : X → Bool) (xs : List X) → AllByRecursion (λ x. t x ≡ true) xs → filter t xs ≡ xs
filter_whole t [] h = refl
filter_whole t (x ∷ xs) h = ap (λ b. cond b (x ∷ filter t xs) (filter t xs)) h.0 ∙ ap (λ zs. x ∷ zs) (filter_whole t xs h.1)

pub neither : (a b : Bool) → a ≡ false → b ≡ false → (a || b) ≡ false
neither a b h k = rw (h, k) refl

pub none_of : {X : Type 0} (t : X → Bool) (xs : List X) → AllByRecursion (λ x. t x ≡ false) xs → list_any t xs ≡ false
none_of t [] h = refl
none_of t (x ∷ xs) h = neither (t x) (list_any t xs) h.0 (none_of t xs h.1)

-- where each element that fails one test fails the other
pub none_where : {X : Type 0} (s t : X → Bool) (xs : List X)
    → AllByRecursion (λ x. s x ≡ false → t x ≡ false) xs → list_any s xs ≡ false → list_any t xs ≡ false
none_where s t [] h k = refl
none_where s t (x ∷ xs) h k = let parts = or_none (s x) (list_any s xs) k in neither (t x) (list_any t xs) (h.0 parts.0) (none_where s t xs h.1 parts.1)
