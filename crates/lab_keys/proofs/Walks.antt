-- Flaws of things that stand one after another.
use Rattle.std.proofs.Common.{◌≡◌, ℕ, ◌+◌, ◌<◌, ◌≤◌, List, [], ◌∷◌, ◌++◌, length, get_or, take, drop, map, refl, sym, ap, ◌∙◌}
use Rattle.std.specs.Prelude.{Option, Some, None, option_map}
use Rattle.std.specs.Option.{option_or}
use Rattle.std.specs.List.{filter_map, cons_option}
use Rattle.std.proofs.lemmas.List.{drop_all, drop_more, take_more, map-append, length-map}
use Rattle.std.proofs.lemmas.List.Elements.{filter_map-append}
use Rattle.toml.specs.Data.{Data, string, integer, float, boolean, datetime, array, table, as_array, Items}
use Rattle.toml.specs.declared.value.Value.{Value}
use Rattle.toml.specs.View.{view, items_of, items_view}
use Rattle.lab_keys.specs.declared.flaw.Flaw.{Flaw}
use Rattle.lab_keys.specs.Spots.{KeySpot}
use Rattle.lab_keys.specs.Kinds.{each_from, first_of, list_of, beyond, bounded_array_flaw, array_flaw}
use Rattle.lab_keys.specs.Values.{items_in}

pub list_of-items_of : (ds : List Data) → list_of (items_of ds) ≡ ds
list_of-items_of [] = refl
list_of-items_of (d ∷ ds) = ap (λ rest. d ∷ rest) (list_of-items_of ds)

-- ---- a walk, at index i of a list

drop_step : {A : Type 0} (xs : List A) (i : ℕ) (x : A) → i < length xs → x ≡ get_or xs i x → drop i xs ≡ x ∷ drop (i + 1) xs
drop_step xs i x within is = drop_more xs i x within ∙ ap (λ y. y ∷ drop (i + 1) xs) (sym is)

-- the next of mapped things
pub map_step : {A B : Type 0} (f : A → B) (xs : List A) (i : ℕ) (x : A) → i < length xs → x ≡ get_or xs i x → map f (drop i xs) ≡ f x ∷ map f (drop (i + 1) xs)
map_step f xs i x within is = ap (map f) (drop_step xs i x within is)

pub map_end : {A B : Type 0} (f : A → B) (xs : List A) (i : ℕ) → length xs ≤ i → map f (drop i xs) ≡ []
map_end f xs i past = ap (map f) (drop_all i xs past)

-- one more that has no flaw
pub each_goes_on : {A B E : Type 0} (flaw : ℕ → B → Option E) (f : A → B) (xs : List A) (i : ℕ) (x : A) (whole : Option E) → i < length xs → x ≡ get_or xs i x
    → each_from flaw i (map f (drop i xs)) ≡ whole → None ≡ flaw i (f x) → each_from flaw (i + 1) (map f (drop (i + 1) xs)) ≡ whole
each_goes_on flaw f xs i x whole within is so_far none =
    ap (λ o. option_or o (each_from flaw (i + 1) (map f (drop (i + 1) xs)))) none ∙ sym (ap (each_from flaw i) (map_step f xs i x within is)) ∙ so_far

-- ---- the same of the first of several flaws

pub first_stops : {A E : Type 0} (f : A → Option E) (xs : List A) (i : ℕ) (x : A) (found : E) (whole : Option E) → i < length xs → x ≡ get_or xs i x
    → first_of (map f (drop i xs)) ≡ whole → Some found ≡ f x → Some found ≡ whole
first_stops f xs i x found whole within is so_far some =
    ap (λ o. option_or o (first_of (map f (drop (i + 1) xs)))) some ∙ sym (ap first_of (map_step f xs i x within is)) ∙ so_far

pub first_ends : {A E : Type 0} (f : A → Option E) (xs : List A) (i : ℕ) (whole : Option E) → length xs ≤ i
    → first_of (map f (drop i xs)) ≡ whole → None ≡ whole
first_ends f xs i whole past so_far = sym (ap first_of (map_end f xs i past)) ∙ so_far

-- ---- what is kept of a list

-- one more is looked at
pub filter_goes_on : {A B C : Type 0} (h : B → Option C) (f : A → B) (xs : List A) (i : ℕ) (x : A) (kept : List C) → i < length xs → x ≡ get_or xs i x
    → kept ≡ filter_map h (map f (take i xs)) → kept ++ cons_option (h (f x)) [] ≡ filter_map h (map f (take (i + 1) xs))
filter_goes_on h f xs i x kept within is so_far =
    let longer : take (i + 1) xs ≡ take i xs ++ x ∷ [] = take_more xs i x within ∙ ap (λ y. take i xs ++ y ∷ []) (sym is) in
    ap (λ ys. ys ++ cons_option (h (f x)) []) so_far
    ∙ sym (filter_map-append h (map f (take i xs)) (f x ∷ []))
    ∙ ap (filter_map h) (sym (map-append f (take i xs) (x ∷ [])))
    ∙ ap (λ ys. filter_map h (map f ys)) (sym longer)

-- ---- arrays

seen_items : (items : Items) (vs : List Value) → Some (items_view vs) ≡ Some items → list_of items ≡ map view vs
seen_items items vs same = let is : items ≡ items_view vs = cc in ap list_of is ∙ list_of-items_of (map view vs)

-- the flaw of the values of an array is that of the array
pub array_seen : (at : KeySpot) (low high : ℕ) (flaw : ℕ → Data → Option Flaw) (d : Data) (vs : List Value) → Some (items_view vs) ≡ as_array d
    → bounded_array_flaw at low high flaw (map view vs) ≡ array_flaw at low high flaw d
array_seen at low high flaw (array items) vs same = ap (bounded_array_flaw at low high flaw) (sym (seen_items items vs same))
array_seen at low high flaw (string _) vs same = cc
array_seen at low high flaw (integer _) vs same = cc
array_seen at low high flaw (float _) vs same = cc
array_seen at low high flaw (boolean _) vs same = cc
array_seen at low high flaw (datetime _) vs same = cc
array_seen at low high flaw (table _) vs same = cc

pub counted_stops : {A : Type 0} (at : KeySpot) (low high : ℕ) (flaw : ℕ → Data → Option Flaw) (f : A → Data) (vs : List A) (found : Flaw)
    → Some found ≡ beyond at low high (length vs)
    → Some found ≡ bounded_array_flaw at low high flaw (map f vs)
counted_stops at low high flaw f vs found some =
    ap (λ o. option_or o (each_from flaw 0 (map f vs))) (some ∙ ap (beyond at low high) (sym (length-map vs f)))

pub counted_goes_on : {A : Type 0} (at : KeySpot) (low high : ℕ) (flaw : ℕ → Data → Option Flaw) (f : A → Data) (vs : List A)
    → None ≡ beyond at low high (length vs)
    → each_from flaw 0 (map f vs) ≡ bounded_array_flaw at low high flaw (map f vs)
counted_goes_on at low high flaw f vs none =
    ap (λ o. option_or o (each_from flaw 0 (map f vs))) (none ∙ ap (beyond at low high) (sym (length-map vs f)))

pub map_some : {A B : Type 0} (f : A → B) (xs : List A) (o : Option A) → map f (xs ++ cons_option o []) ≡ map f xs ++ cons_option (option_map f o) []
map_some f xs None = map-append f xs []
map_some f xs (Some x) = map-append f xs (x ∷ [])

-- the values of an array are its items
pub items_seen : (d : Data) (vs : List Value) (o : Option Data) → Some (items_view vs) ≡ as_array d → Some d ≡ o → map view vs ≡ items_in o
items_seen d vs o same is = by_kind d same ∙ ap items_in is where
  by_kind : (d : Data) → Some (items_view vs) ≡ as_array d → map view vs ≡ items_in (Some d)
  by_kind (array items) same = sym (seen_items items vs same)
  by_kind (string _) same = cc
  by_kind (integer _) same = cc
  by_kind (float _) same = cc
  by_kind (boolean _) same = cc
  by_kind (datetime _) same = cc
  by_kind (table _) same = cc
