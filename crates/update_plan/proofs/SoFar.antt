-- What is made of those that the walk over what is due has passed: UPDATEs, or whole batches.
use Rattle.std.proofs.Common.{◌≡◌, ◌≢◌, ℕ, ◌+◌, ◌<◌, ◌≤◌, ◌⊎◌, Bool, true, false, ◌||◌, List, [], ◌∷◌, ◌++◌}
use Rattle.std.proofs.Common.{length, take, slice_index_or, Option, refl, sym, ap, ◌∙◌, subst, inl, inr}
use Rattle.std.specs.FinMap as map
use Rattle.std.specs.List.{list_any}
use Rattle.std.specs.List.Sorted.{IsStrictlySortedBy}
use Rattle.std.proofs.lemmas.Bool.{false≢true}
use Rattle.std.proofs.lemmas.List.{take_more, take_all}
use Rattle.std.proofs.lemmas.List.Folds.{list_any-append}
use Rattle.bgp_types.specs.declared.attrs.Attrs.{Attrs}
use Rattle.bgp_types.specs.Prefixes.{PrefixValue, same_prefix}
use Rattle.bgp_types.specs.Tables.{prefix_cmp}
use Rattle.session_value.specs.Sets.{Prefixes, has}
use Rattle.update_plan.specs.declared.batch.Batch.{Batch}
use Rattle.update_plan.specs.Gathering.{GathersBy}
use Rattle.update_plan.specs.ToTell.{IsPrefixToTell}
use Rattle.update_plan.proofs.Keys.{keys_any, first_keys_rise}
use Rattle.update_plan.proofs.Listed.{same_itself, is_same, before_below}
use Rattle.update_plan.proofs.Plans.{Above, Kind, Plus}

-- those that stand in a list, aren't to be decided again, and were told otherwise
pub record Among (dirty : Prefixes) (adj_rib_out : map.FinMap prefix_cmp Attrs)
    (to_tell : PrefixValue → Option Attrs) (ps : List PrefixValue) (x : PrefixValue) : Type 0 where
  pub clean : has dirty x ≡ false
  pub other : map.get adj_rib_out x ≢ to_tell x
  pub listed : list_any (same_prefix x) ps ≡ true

module _ (dirty : Prefixes) (adj_rib_out : map.FinMap prefix_cmp Attrs) (to_tell : PrefixValue → Option Attrs) (Of : Kind → List Batch → Type 0)
    (same : (Is Js : Kind) → ((x : PrefixValue) → Is x → Js x) → ((x : PrefixValue) → Js x → Is x) → (bs : List Batch) → Of Is bs → Of Js bs) where
  abbrev Is : List PrefixValue → PrefixValue → Type 0
  Is ps x = Among dirty adj_rib_out to_tell ps x

  abbrev pub OfAmong : List PrefixValue → List Batch → Type 0
  OfAmong ps batches = Of (Is ps) batches

  module _ (ps : List PrefixValue) (p : PrefixValue) where
    either : (a b : Bool) → (a || (b || false)) ≡ true → (a ≡ true) ⊎ (b ≡ true)
    either true b e = inl refl
    either false true e = inr refl
    either false false e = absurd (false≢true e)

    too : (a b : Bool) → a ≡ true → (a || b) ≡ true
    too true b e = refl
    too false b e = absurd (false≢true e)

    last : (a b : Bool) → b ≡ true → (a || (b || false)) ≡ true
    last true b e = refl
    last false true e = refl
    last false false e = absurd (false≢true e)

    listed_more : (x : PrefixValue) → list_any (same_prefix x) (ps ++ p ∷ []) ≡ (list_any (same_prefix x) ps || (same_prefix x p || false))
    listed_more x = list_any-append (same_prefix x) ps (p ∷ [])

    among_more : (x : PrefixValue) → Is (ps ++ p ∷ []) x → Is ps x ⊎ (x ≡ p)
    among_more x is = elim (either (list_any (same_prefix x) ps) (same_prefix x p) (sym (listed_more x) ∙ is.listed)) [
      | inl before ↦ inl (record { clean = is.clean; other = is.other; listed = before })
      | inr e ↦ inr (is_same x p e)
    ]

    among_too : (x : PrefixValue) → Is ps x → Is (ps ++ p ∷ []) x
    among_too x is =
        record { clean = is.clean; other = is.other; listed = listed_more x ∙ too (list_any (same_prefix x) ps) (same_prefix x p || false) is.listed }

    -- one that isn't to be told is passed over
    passes : (batches : List Batch) → (Is (ps ++ p ∷ []) p → ⊥) → OfAmong ps batches → OfAmong (ps ++ p ∷ []) batches
    passes batches none plan = same (Is ps) (Is (ps ++ p ∷ [])) among_too
        (λ x is. elim (among_more x is) [
          | inl before ↦ before
          | inr e ↦ absurd (none (subst (Is (ps ++ p ∷ [])) e is))
        ])
        batches plan

    passes_dirty : (batches : List Batch) → has dirty p ≡ true → OfAmong ps batches → OfAmong (ps ++ p ∷ []) batches
    passes_dirty batches dirties plan = passes batches (λ is. false≢true (sym is.clean ∙ dirties)) plan

    gathers : (Adds : Option Attrs → PrefixValue → List Batch → List Batch → Type 0) (old new : List Batch)
        → IsStrictlySortedBy prefix_cmp (ps ++ p ∷ []) → has dirty p ≡ false
        → (Above (Is ps) p → Adds (to_tell p) p old new → OfAmong ps old → Of (Plus (Is ps) p) new)
        → GathersBy Adds (map.get adj_rib_out p) to_tell p old new → OfAmong ps old → OfAmong (ps ++ p ∷ []) new
    gathers Adds old new rises clean adds (inl h) plan = subst (OfAmong (ps ++ p ∷ [])) (sym h.1) (passes old (λ is. is.other h.0) plan)
    gathers Adds old new rises clean adds (inr h) plan =
        let here : Is (ps ++ p ∷ []) p =
        record { clean = clean; other = h.0; listed = listed_more p ∙ last (list_any (same_prefix p) ps) (same_prefix p p) (same_itself p) } in
        same (Plus (Is ps) p) (Is (ps ++ p ∷ []))
        (λ x is. elim is [
          | inl before ↦ among_too x before
          | inr e ↦ subst (Is (ps ++ p ∷ [])) (sym e) here
        ])
        among_more
        new (adds (λ x is. before_below ps [] p rises x is.listed) h.1 plan)

  -- ---- the steps of the walk over a list

  module _ (ks : List PrefixValue) (i : ℕ) (p : PrefixValue) (within : i < length ks) (is : p ≡ slice_index_or ks i p) where
    more : take (i + 1) ks ≡ take i ks ++ p ∷ []
    more = take_more ks i p within ∙ ap (λ (q : PrefixValue). take i ks ++ q ∷ []) (sym is)

    pub walk_passes : (batches : List Batch) → has dirty p ≡ true → OfAmong (take i ks) batches → OfAmong (take (i + 1) ks) batches
    walk_passes batches dirties plan = subst (λ (ps : List PrefixValue). OfAmong ps batches) (sym more) (passes_dirty (take i ks) p batches dirties plan)

    pub walk_gathers : (due : Prefixes) → ks ≡ map.keys due → (Adds : Option Attrs → PrefixValue → List Batch → List Batch → Type 0) (old new : List Batch)
        → has dirty p ≡ false → ((Is : Kind) → Above Is p → Adds (to_tell p) p old new → Of Is old → Of (Plus Is p) new)
        → GathersBy Adds (map.get adj_rib_out p) to_tell p old new → OfAmong (take i ks) old → OfAmong (take (i + 1) ks) new
    walk_gathers due keys Adds old new clean adds gathered plan =
        let rises : IsStrictlySortedBy prefix_cmp (take (i + 1) ks) =
        subst (λ (l : List PrefixValue). IsStrictlySortedBy prefix_cmp (take (i + 1) l)) (sym keys) (first_keys_rise due (i + 1)) in
        subst (λ (ps : List PrefixValue). OfAmong ps new) (sym more)
        (gathers (take i ks) p Adds old new (subst (IsStrictlySortedBy prefix_cmp) more rises) clean (adds (Is (take i ks))) gathered plan)

  pub walk_ends : (due : Prefixes) (ks : List PrefixValue) → ks ≡ map.keys due → (i : ℕ) → length ks ≤ i → (batches : List Batch)
      → OfAmong (take i ks) batches → Of (IsPrefixToTell due dirty adj_rib_out to_tell) batches
  walk_ends due ks keys i past batches plan =
      let all : OfAmong (map.keys due) batches = subst (λ (ps : List PrefixValue). OfAmong ps batches) (take_all i ks past ∙ keys) plan in
      same (Is (map.keys due)) (IsPrefixToTell due dirty adj_rib_out to_tell)
      (λ x among. ((sym (keys_any due x) ∙ among.listed, among.clean), among.other))
      (λ x untold. record { clean = untold.0.1; other = untold.1; listed = keys_any due x ∙ untold.0.0 })
      batches all
