-- Places of which one changes.
use Rattle.std.proofs.Common.{◌≡◌, ℕ, zero, suc, ◌+◌, ◌≤◌, List, [], ◌∷◌, Option, Some, None, is_some, set, fold, count_by, refl, ap, ◌∙◌, arith}
use Rattle.std.specs.Prelude.{if◌then◌else◌}
use Rattle.std.proofs.lemmas.List.{set-get_or}
use Rattle.session_places.specs.Places.{PlaceList, with_place}
use Rattle.router_core.specs.Places.{place_at}
use Rattle.router_core.specs.declared.place.Place.{Place}

-- the same places, and the same room
pub listed : {a b : PlaceList Place} → a ≡ b → a.places ≡ b.places
listed e = ap (λ (p : PlaceList Place). p.places) e

pub rooms : {a b : PlaceList Place} → a ≡ b → a.room ≡ b.room
rooms e = ap (λ (p : PlaceList Place). p.room) e

-- a place is as it was
pub same_there : (places : PlaceList Place) (n : ℕ) → with_place places n (place_at places.places n) ≡ places
same_there places n = ap (λ (xs : List (Option Place)). let p : PlaceList Place = record places { places = xs } in p) (set-get_or places.places n None)

-- ---- how many places are taken

add_from : (xs : List (Option Place)) (a b : ℕ)
    → fold (λ (n : ℕ) (y : Option Place). n + (if is_some y then 1 else 0)) (a + b) xs
    ≡ a + fold (λ (n : ℕ) (y : Option Place). n + (if is_some y then 1 else 0)) b xs
add_from [] a b = refl
add_from (y ∷ ys) a b = ap (λ (n : ℕ). fold (λ (m : ℕ) (z : Option Place). m + (if is_some z then 1 else 0)) n ys)
    (let e : a + b + (if is_some y then 1 else 0) ≡ a + (b + (if is_some y then 1 else 0)) = omega arith in e)
    ∙ add_from ys a (b + (if is_some y then 1 else 0))

pub count_first : (x : Option Place) (xs : List (Option Place)) → count_by is_some (x ∷ xs) ≡ (if is_some x then 1 else 0) + count_by is_some xs
count_first x xs = ap (λ (n : ℕ). fold (λ (m : ℕ) (z : Option Place). m + (if is_some z then 1 else 0)) n xs)
    (let e : 0 + (if is_some x then 1 else 0) ≡ (if is_some x then 1 else 0) + 0 = omega arith in e) ∙ add_from xs (if is_some x then 1 else 0) 0

-- a place that is made vacant counts no more, and one that is taken counts once
pub count_without : (xs : List (Option Place)) (n : ℕ) → count_by is_some (set xs n None) ≤ count_by is_some xs
count_without [] n = omega arith
count_without (x ∷ xs) zero = let e = count_first x xs in let d = count_first None xs in omega (arith, e, d)
count_without (x ∷ xs) (suc n) = let e = count_first x xs in let d = count_first x (set xs n None) in let r = count_without xs n in omega (arith, e, d, r)

pub count_with : (xs : List (Option Place)) (n : ℕ) (y : Place) → count_by is_some (set xs n (Some y)) ≤ count_by is_some xs + 1
count_with [] n y = omega arith
count_with (x ∷ xs) zero y = let e = count_first x xs in let d = count_first (Some y) xs in omega (arith, e, d)
count_with (x ∷ xs) (suc n) y = let e = count_first x xs in let d = count_first x (set xs n (Some y)) in let r = count_with xs n y in omega (arith, e, d, r)

-- the last value that is put at a place counts
pub set_again : (xs : List (Option Place)) (n : ℕ) (x y : Option Place) → set (set xs n x) n y ≡ set xs n y
set_again [] n x y = refl
set_again (z ∷ xs) zero x y = refl
set_again (z ∷ xs) (suc n) x y = ap (λ (ys : List (Option Place)). z ∷ ys) (set_again xs n x y)
