-- A table that is gone through by the list of its prefixes.
use Rattle.std.proofs.Common.{◌≡◌, ℕ, ◌+◌, ◌<◌, ◌≤◌, List, [], ◌∷◌, ◌++◌, length, get_or, take, append_assoc, Some, None, sym, ap, ◌∙◌, arith}
use Rattle.std.specs.Prelude.{T, map}
use Rattle.std.specs.FinMap as table
use Rattle.std.proofs.lemmas.List.{get_or_default, get_or-map, length-map, map_push, take_all, take_more}
use Rattle.std.proofs.lemmas.Option.{same_Some}
use Rattle.bgp_types.specs.Prefixes.{PrefixValue}
use Rattle.bgp_types.specs.Tables.{prefix_cmp}
use Rattle.prefix_table.proofs.Indices.{placed, find_at}

some_entry : {E : Type 0} (es : List E) → 0 < length es → E
some_entry [] some = absurd (omega arith)
some_entry (e ∷ es) some = e

module _ {X A : Type 0} (f : PrefixValue × X → A) (es : List (PrefixValue × X)) (rise : T (table.is_sorted prefix_cmp es)) where
  abbrev prefixes : List PrefixValue
  prefixes = map (λ e. e.0) es

  -- what is found at the prefix of an index is what the entry there has
  found_there : (i : ℕ) (p : PrefixValue) (d : PrefixValue × X) → i < length es → p ≡ (get_or es i d).0 → table.find prefix_cmp p es ≡ Some (get_or es i d).1
  found_there i p d lt is = find_at es p i (placed es rise p i lt (λ e. ap (λ (x : PrefixValue × X). x.0) (get_or_default es i e d lt) ∙ sym is)) d

  within : (i : ℕ) → i < length prefixes → i < length es
  within i lt = omega (arith, lt, length-map es (λ (e : PrefixValue × X). e.0))

  named : (i : ℕ) (p : PrefixValue) (d : PrefixValue × X) → i < length prefixes → p ≡ get_or prefixes i p → p ≡ (get_or es i d).0
  named i p d lt is = is ∙ get_or-map (λ (e : PrefixValue × X). e.0) es i d p (within i lt)

  -- one more is listed
  pub one_more : (whole done : List A) (i : ℕ) (p : PrefixValue) (value : X) → i < length prefixes → p ≡ get_or prefixes i p
      → table.find prefix_cmp p es ≡ Some value → done ≡ whole ++ map f (take i es) → done ++ f (p, value) ∷ [] ≡ whole ++ map f (take (i + 1) es)
  one_more whole done i p value lt is found so_far =
      let d : PrefixValue × X = (p, value) in
      let here : p ≡ (get_or es i d).0 = named i p d lt is in
      let same : value ≡ (get_or es i d).1 = same_Some value (get_or es i d).1 (sym found ∙ found_there i p d (within i lt) here) in
      let entry : d ≡ get_or es i d = ap (λ (q : PrefixValue). (q, value)) here ∙ ap (λ (v : X). ((get_or es i d).0, v)) same in
      ap (λ (xs : List A). xs ++ f d ∷ []) so_far
      ∙ (ap (λ (e : PrefixValue × X). (whole ++ map f (take i es)) ++ f e ∷ []) entry
      ∙ (append_assoc whole (map f (take i es)) (f (get_or es i d) ∷ [])
      ∙ ap (λ (xs : List A). whole ++ xs) (sym (map_push f (take i es) (get_or es i d)) ∙ ap (map f) (sym (take_more es i d (within i lt))))))

  -- a prefix of the list has an entry
  pub has_one : (i : ℕ) (p : PrefixValue) → i < length prefixes → p ≡ get_or prefixes i p → table.find prefix_cmp p es ≡ None → ⊥
  has_one i p lt is none =
      let d : PrefixValue × X = some_entry es (omega (arith, within i lt)) in
      let both : None ≡ Some (get_or es i d).1 = sym none ∙ found_there i p d (within i lt) (named i p d lt is) in absurd cc

  -- at last all are listed
  pub all_listed : (whole done : List A) (i : ℕ) → length prefixes ≤ i → done ≡ whole ++ map f (take i es) → done ≡ whole ++ map f es
  all_listed whole done i le so_far = so_far
      ∙ ap (λ (xs : List (PrefixValue × X)). whole ++ map f xs) (take_all i es (omega (arith, le, length-map es (λ (e : PrefixValue × X). e.0))))
