-- What holds of the next UPDATE of a plan, and of those behind it.
use Rattle.std.proofs.Common.{◌≡◌, ◌≢◌, ◌≤◌, ◌⊎◌, List, [], ◌∷◌, ◌++◌, append-nil, Bool, true, false, not, ◌&&◌}
use Rattle.std.proofs.Common.{◌||◌, Option, Some, None, refl, sym, ap, ◌∙◌, subst, inl, inr}
use Rattle.std.specs.Prelude.{IfSome}
use Rattle.std.specs.declared.cmp.Ordering.TheVariants.{Less}
use Rattle.std.specs.FinMap as map
use Rattle.std.specs.List.{All, AllByRecursion, list_any, IsDistinct}
use Rattle.std.specs.List.Sorted.{IsStrictlySortedBy}
use Rattle.std.proofs.lemmas.Bool.{false≢true}
use Rattle.std.proofs.lemmas.List.Elements.{All-nil, All-cons, All-head, All-tail, All-weaker}
use Rattle.bgp_types.specs.declared.attrs.Attrs.{Attrs}
use Rattle.bgp_types.specs.Prefixes.{PrefixValue, IsPrefix, same_prefix}
use Rattle.bgp_types.specs.Tables.{prefix_cmp}
use Rattle.bgp_types.specs.Writable.{IsWritableAttrs, IsWritableUpdate}
use Rattle.bgp_story.specs.Legal.{IsOneWay}
use Rattle.bgp_story.specs.Readings.{Routes, apply}
use Rattle.session_value.specs.Cases.{Changes, update_for}
use Rattle.session_value.specs.Sets.{Prefixes, has}
use Rattle.update_plan.specs.declared.batch.Batch.{Batch}
use Rattle.update_plan.specs.Plans.{IsNext, IsPlan, IsWritableFor, Without, octets}
use Rattle.update_plan.specs.ToTell.{IsPrefixToTell}
use Rattle.update_plan.proofs.Listed.{same_itself, below_apart, is_same}
use Rattle.update_plan.proofs.Plans.{plan_of_same}
use Rattle.update_plan.proofs.Told.{value_of_listed, value_of_other}

-- ---- it changes what was told

front_all : (P : PrefixValue → Type 0) (xs ys : List PrefixValue) → All P (xs ++ ys) → All P xs
front_all P [] ys h = All-nil P
front_all P (x ∷ xs) ys h = All-cons P x xs (All-head P x (xs ++ ys) h) (front_all P xs ys (All-tail P x (xs ++ ys) h))

-- each of the first stands among the first
first_listed : (p : PrefixValue) (xs : List PrefixValue) → list_any (same_prefix p) (p ∷ xs) ≡ true
first_listed p xs = ap (λ t. t || list_any (same_prefix p) xs) (same_itself p)

or_listed : (a b : Bool) → b ≡ true → (a || b) ≡ true
or_listed true b e = refl
or_listed false b e = e

all_listed : (P : PrefixValue → Type 0) (all xs : List PrefixValue) → All P xs
    → ((p : PrefixValue) → list_any (same_prefix p) xs ≡ true → list_any (same_prefix p) all ≡ true)
    → All (λ p. P p × (list_any (same_prefix p) all ≡ true)) xs
all_listed P all [] h there = All-nil (λ p. P p × (list_any (same_prefix p) all ≡ true))
all_listed P all (x ∷ xs) h there =
    All-cons (λ p. P p × (list_any (same_prefix p) all ≡ true)) x xs (All-head P x xs h, there x (first_listed x xs))
    (all_listed P all xs (All-tail P x xs h) (λ p e. there p (or_listed (same_prefix p x) (list_any (same_prefix p) xs) e)))

all_of_update : (P : PrefixValue → Type 0) (attrs : Option Attrs) (prefixes : List PrefixValue) → All P prefixes
    → All P ((update_for attrs prefixes).withdrawn ++ (update_for attrs prefixes).nlri)
all_of_update P None prefixes h = subst (All P) (sym (append-nil prefixes)) h
all_of_update P (Some a) prefixes h = h

module _ (due dirty : Prefixes) (adj_rib_out : Routes) (to_tell : PrefixValue → Option Attrs) (wide : Bool) (batch : Batch) where
  abbrev ToTell : PrefixValue → Type 0
  ToTell x = IsPrefixToTell due dirty adj_rib_out to_tell x

  changed : (p : PrefixValue) → (ToTell p × (to_tell p ≡ batch.attrs)) × (list_any (same_prefix p) batch.prefixes ≡ true)
      → map.get (apply adj_rib_out (update_for batch.attrs batch.prefixes)) p ≢ map.get adj_rib_out p
  changed p h e = h.0.0.1 (sym e ∙ (value_of_listed batch.attrs batch.prefixes adj_rib_out p h.1 ∙ sym h.0.1))

  pub changes_told : (later : List PrefixValue) → All (λ x. ToTell x × (to_tell x ≡ batch.attrs)) (batch.prefixes ++ later)
      → Changes adj_rib_out (update_for batch.attrs batch.prefixes)
  changes_told later each =
      let first = front_all (λ x. ToTell x × (to_tell x ≡ batch.attrs)) batch.prefixes later each in
      let listed = all_listed (λ x. ToTell x × (to_tell x ≡ batch.attrs)) batch.prefixes batch.prefixes first (λ p e. e) in
      all_of_update (λ p. map.get (apply adj_rib_out (update_for batch.attrs batch.prefixes)) p ≢ map.get adj_rib_out p) batch.attrs batch.prefixes
      (All-weaker (λ p. (ToTell p × (to_tell p ≡ batch.attrs)) × (list_any (same_prefix p) batch.prefixes ≡ true))
      (λ p. map.get (apply adj_rib_out (update_for batch.attrs batch.prefixes)) p ≢ map.get adj_rib_out p) changed batch.prefixes listed)

  pub changes : IsNext ToTell to_tell wide batch → Changes adj_rib_out (update_for batch.attrs batch.prefixes)
  changes next = changes_told next.later next.alike.each

-- ---- it is one way

distinct : (xs ys : List PrefixValue) → IsStrictlySortedBy prefix_cmp (xs ++ ys) → IsDistinct same_prefix xs
unfolding IsDistinct IsStrictlySortedBy
distinct [] ys r = tt
distinct (x ∷ xs) ys r = (others x xs ys r.0, distinct xs ys r.1) where
  others : (x : PrefixValue) (xs ys : List PrefixValue) → AllByRecursion (λ y. prefix_cmp x y ≡ Less) (xs ++ ys)
      → AllByRecursion (λ y. same_prefix x y ≡ false) xs
  others x [] ys h = tt
  others x (y ∷ xs) ys h = (apart x y h.0, others x xs ys h.1) where
    apart : (x y : PrefixValue) → prefix_cmp x y ≡ Less → same_prefix x y ≡ false
    apart x y l = elim (same_prefix x y) as (λ t. same_prefix x y ≡ t → same_prefix x y ≡ false) [
      | true ↦ λ e. absurd (false≢true (sym (below_apart x y l) ∙ (ap (same_prefix y) (is_same x y e) ∙ same_itself y)))
      | false ↦ λ e. e
    ] refl

writable : (attrs : Option Attrs) (prefixes : List PrefixValue) → prefixes ≢ [] → IsDistinct same_prefix prefixes → All IsPrefix prefixes
    → IfSome attrs IsWritableAttrs → IsWritableUpdate (update_for attrs prefixes)
writable None prefixes some once sound w =
    record { withdrawn = sound; nlri = All-nil IsPrefix; once = subst (IsDistinct same_prefix) (sym (append-nil prefixes)) once; attrs = refl }
writable (Some a) prefixes some once sound w = record { withdrawn = All-nil IsPrefix; nlri = sound; once = once; attrs = (some, w) }

way : (attrs : Option Attrs) (prefixes : List PrefixValue) → prefixes ≢ []
    → (((update_for attrs prefixes).withdrawn ≢ []) × ((update_for attrs prefixes).nlri ≡ []))
    ⊎ (((update_for attrs prefixes).withdrawn ≡ []) × ((update_for attrs prefixes).nlri ≢ []))
way None prefixes some = inl (some, refl)
way (Some a) prefixes some = inr (refl, some)

pub one_way_told : (wide : Bool) (batch : Batch) (later : List PrefixValue) → batch.prefixes ≢ [] → IsStrictlySortedBy prefix_cmp (batch.prefixes ++ later)
    → octets wide batch.attrs batch.prefixes ≤ 4096 → All IsPrefix batch.prefixes → IsWritableFor batch → IsOneWay (update_for batch.attrs batch.prefixes) wide
one_way_told wide batch later some rising fits sound w = record {
  writable = record { body = writable batch.attrs batch.prefixes some (distinct batch.prefixes later rising) sound w; size = fits };
  one_way = way batch.attrs batch.prefixes some;
}

pub one_way : (Is : PrefixValue → Type 0) (to_tell : PrefixValue → Option Attrs) (wide : Bool) (batch : Batch) → IsNext Is to_tell wide batch
    → All IsPrefix batch.prefixes → IsWritableFor batch → IsOneWay (update_for batch.attrs batch.prefixes) wide
one_way Is to_tell wide batch next sound w = one_way_told wide batch next.later next.some next.alike.rising next.fits sound w

-- ---- what is left behind it

both : (a b : Bool) → (a && not b) ≡ true → (a ≡ true) × (b ≡ false)
both true true e = absurd (false≢true e)
both true false e = (refl, refl)
both false b e = absurd (false≢true e)

both_true : (a b : Bool) → a ≡ true → b ≡ false → (a && not b) ≡ true
both_true true true e f = absurd (false≢true (sym f))
both_true true false e f = refl
both_true false b e f = e

module _ (due then_due dirty : Prefixes) (adj_rib_out : Routes) (to_tell : PrefixValue → Option Attrs) (wide : Bool) (batch : Batch)
    (less_due : (x : PrefixValue) → has then_due x ≡ (has due x && not (list_any (same_prefix x) batch.prefixes))) where
  abbrev pub Left : PrefixValue → Type 0
  Left x = Without (λ y. IsPrefixToTell due dirty adj_rib_out to_tell y) batch.prefixes x

  abbrev pub Then : PrefixValue → Type 0
  Then x = IsPrefixToTell then_due dirty (apply adj_rib_out (update_for batch.attrs batch.prefixes)) to_tell x

  pub left_then : (x : PrefixValue) → Left x → Then x
  left_then x h = (
    (less_due x ∙ both_true (has due x) (list_any (same_prefix x) batch.prefixes) h.0.0.0 h.1, h.0.0.1),
    λ e. h.0.1 (sym (value_of_other batch.attrs batch.prefixes adj_rib_out x h.1) ∙ e),
  )

  pub then_left : (x : PrefixValue) → Then x → Left x
  then_left x h =
      let b = both (has due x) (list_any (same_prefix x) batch.prefixes) (sym (less_due x) ∙ h.0.0) in
      (((b.0, h.0.1), λ e. h.1 (value_of_other batch.attrs batch.prefixes adj_rib_out x b.1 ∙ e)), b.1)

  pub rest : (batches : List Batch) → IsPlan (λ y. IsPrefixToTell due dirty adj_rib_out to_tell y) to_tell wide (batch ∷ batches)
      → IsPlan Then to_tell wide batches
  rest batches plan = plan_of_same to_tell wide Left Then left_then then_left batches plan.1
