-- Which elements a list has: of a filter, of what a rule keeps, of what is made of each.
use Rattle.std.proofs.Common.{◌≡◌, zero, suc, Bool, true, false, not, ◌||◌, cond, List, [], ◌∷◌, Option, Some, None, refl, ap, ◌∙◌, arith, map}
use Rattle.std.specs.Prelude.{Contains}
use Rattle.std.specs.List.{filter, list_any, filter_map, cons_option}
use Rattle.decision_core.specs.Choice.{keep, first}

pub Contains-head : {X : Type 0} (x : X) (xs : List X) → Contains (x ∷ xs) x
Contains-head x xs = (zero, omega arith, refl)

pub Contains-tail : {X : Type 0} (x y : X) (xs : List X) → Contains xs y → Contains (x ∷ xs) y
Contains-tail x y xs (k, within, is) = (suc k, omega (arith, within), is)

pub nothing_in_none : {X C : Type 0} (x : X) → Contains [] x → C
nothing_in_none x (k, within, is) = absurd (omega (arith, within))

-- the first element, or one of the others
pub Contains-cases : {X C : Type 0} (x y : X) (xs : List X) → Contains (x ∷ xs) y → (x ≡ y → C) → (Contains xs y → C) → C
Contains-cases x y xs (zero, within, is) here further = here is
Contains-cases x y xs (suc k, within, is) here further = further (k, omega (arith, within), is)

pub Contains-first : {X : Type 0} (xs : List X) (x : X) → first xs ≡ Some x → Contains xs x
Contains-first [] x h = cc
Contains-first (y ∷ ys) x h = let same : y ≡ x = cc in (zero, omega arith, same)

or_false : (a b : Bool) → a ≡ false → b ≡ false → (a || b) ≡ false
or_false a b h k = rw (h, k) refl

pub list_any-none : {X : Type 0} (p : X → Bool) (xs : List X) → ((x : X) → Contains xs x → p x ≡ false) → list_any p xs ≡ false
list_any-none p [] h = refl
list_any-none p (x ∷ xs) h = or_false (p x) (list_any p xs) (h x (Contains-head x xs)) (list_any-none p xs (λ y there. h y (Contains-tail x y xs there)))

-- ---- a filter

head_passing : {X : Type 0} (b : Bool) (x y : X) (xs : List X) → b ≡ true → x ≡ y → Contains (cond b (x ∷ xs) xs) y
head_passing true x y xs h is = (zero, omega arith, is)
head_passing false x y xs h is = cc

tail_passing : {X : Type 0} (b : Bool) (x y : X) (xs : List X) → Contains xs y → Contains (cond b (x ∷ xs) xs) y
tail_passing true x y xs h = Contains-tail x y xs h
tail_passing false x y xs h = h

pub filter-contains : {X : Type 0} (p : X → Bool) (xs : List X) (x : X) → Contains xs x → p x ≡ true → Contains (filter p xs) x
filter-contains p [] x there passes = nothing_in_none x there
filter-contains p (y ∷ ys) x there passes =
    Contains-cases y x ys there
    (λ same. head_passing (p y) y x (filter p ys) (ap p same ∙ passes) same)
    (λ further. tail_passing (p y) y x (filter p ys) (filter-contains p ys x further passes))

pub keep-contains : {X : Type 0} (rule : X → X → Bool) (xs : List X) (x : X) → Contains xs x → ((y : X) → Contains xs y → rule y x ≡ false)
    → Contains (keep rule xs) x
unfolding keep
keep-contains rule xs x there unbeaten =
    filter-contains (λ z. not (list_any (λ y. rule y z) xs)) xs x there (ap not (list_any-none (λ y. rule y x) xs unbeaten))

-- ---- what is made of each element

pub map-contains : {X Y : Type 0} (f : X → Y) (xs : List X) (x : X) → Contains xs x → Contains (map f xs) (f x)
map-contains f [] x there = nothing_in_none x there
map-contains f (y ∷ ys) x there =
    Contains-cases y x ys there
    (λ same. (zero, omega arith, ap f same))
    (λ further. Contains-tail (f y) (f x) (map f ys) (map-contains f ys x further))

pub map-contained : {X Y : Type 0} (f : X → Y) (xs : List X) (y : Y) → Contains (map f xs) y → (x : X) × Contains xs x × (f x ≡ y)
map-contained f [] y there = nothing_in_none y there
map-contained f (x ∷ xs) y there =
    Contains-cases (f x) y (map f xs) there
    (λ same. (x, Contains-head x xs, same))
    (λ further. let more = map-contained f xs y further in (more.0, Contains-tail x more.0 xs more.1, more.2))

head_made : {Y : Type 0} (o : Option Y) (y : Y) (ys : List Y) → o ≡ Some y → Contains (cons_option o ys) y
head_made None y ys h = cc
head_made (Some z) y ys h = let same : z ≡ y = cc in (zero, omega arith, same)

tail_made : {Y : Type 0} (o : Option Y) (y : Y) (ys : List Y) → Contains ys y → Contains (cons_option o ys) y
tail_made None y ys h = h
tail_made (Some z) y ys h = Contains-tail z y ys h

made_cases : {Y C : Type 0} (o : Option Y) (y : Y) (ys : List Y) → Contains (cons_option o ys) y → (o ≡ Some y → C) → (Contains ys y → C) → C
made_cases None y ys there here further = further there
made_cases (Some z) y ys there here further = Contains-cases z y ys there (λ same. here (ap Some same)) further

pub filter_map-contains : {X Y : Type 0} (h : X → Option Y) (xs : List X) (x : X) (y : Y) → Contains xs x → h x ≡ Some y → Contains (filter_map h xs) y
filter_map-contains h [] x y there made = nothing_in_none x there
filter_map-contains h (z ∷ zs) x y there made =
    Contains-cases z x zs there
    (λ same. head_made (h z) y (filter_map h zs) (ap h same ∙ made))
    (λ further. tail_made (h z) y (filter_map h zs) (filter_map-contains h zs x y further made))

pub filter_map-contained : {X Y : Type 0} (h : X → Option Y) (xs : List X) (y : Y) → Contains (filter_map h xs) y → (x : X) × Contains xs x × (h x ≡ Some y)
filter_map-contained h [] y there = nothing_in_none y there
filter_map-contained h (x ∷ xs) y there =
    made_cases (h x) y (filter_map h xs) there
    (λ made. (x, Contains-head x xs, made))
    (λ further. let more = filter_map-contained h xs y further in (more.0, Contains-tail x more.0 xs more.1, more.2))
