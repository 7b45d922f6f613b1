-- What a search by halves finds among entries in the order of their keys, and what a change there leaves.
use Rattle.std.proofs.Common.{◌≡◌, ℕ, zero, suc, ◌+◌, ◌<◌, ◌≤◌, false, List, [], ◌∷◌, length, get_or, set}
use Rattle.std.proofs.Common.{Some, None, Result, Ok, Err, IfOk, IfErr, refl, sym, ap, ◌∙◌, arith}
use Rattle.std.specs.List as list
use Rattle.std.specs.List.Sorted.{IsStrictlySortedBy, IsSearchInRange, IsBinarySearchResult}
use Rattle.std.specs.Map.{lookup, keys_of, remove_entry}
use Rattle.std.specs.BTreeMap.{is_at, insert_entry}
use Rattle.std.specs.Cmp.{IsTotalOrder}
use Rattle.std.specs.Ordering.{is_lt, ordering_reverse}
use Rattle.std.specs.declared.cmp.Ordering.{Ordering}
use Rattle.std.specs.declared.cmp.Ordering.TheVariants.{Less, Equal, Greater}
use Rattle.std.proofs.lemmas.Cmp.{tied_back}
use Rattle.std.proofs.lemmas.List.{get_or-map}
use Rattle.std.proofs.lemmas.List.Sorted.{searchable_from_sorted}
use Rattle.std.proofs.lemmas.Map.Entries.{length-keys_of}
use Rattle.std.proofs.lemmas.Map.Keys.{sorted_head, sorted_tail, Less-from_sorted}
use Rattle.decision_groups.specs.Indices.{IsBelowAll, IsIndexOfKey, IsGapForKey}
use Rattle.decision_groups.proofs.Entries.{insert_below, lookup_below}

-- ---- what a search finds

module _ {K X : Type 0} {R : K → K → Ordering} (o : IsTotalOrder R) (k : K) where
  -- a key that is below those of all entries is below the one that stands among them
  below_index : (j : K) (es : List (K × X)) (at : ℕ) → IsBelowAll R j es → IsIndexOfKey R k es at → R k j ≡ Greater
  below_index j [] at below here = absurd here
  below_index j (e ∷ es) zero below here = o.congr k e.0 j here ∙ (o.antisymm e.0 j ∙ ap ordering_reverse below.0)
  below_index j (e ∷ es) (suc at) below here = below_index j es at below.1 here.1

  index_is : (es : List (K × X)) (at : ℕ) → IsStrictlySortedBy R (keys_of es) → at < length es → ((d : K × X) → R (get_or es at d).0 k ≡ Equal)
      → IsIndexOfKey R k es at
  index_is [] at s within equal = absurd (omega (arith, within))
  index_is (e ∷ es) zero s within equal = tied_back o e.0 k (equal e)
  index_is (e ∷ es) (suc at) s within equal =
      let further = index_is es at (sorted_tail R e.0 (keys_of es) s) (omega (arith, within)) equal in
      (below_index e.0 es at (sorted_head R e.0 (keys_of es) s) further, further)

  below_of : (es : List (K × X)) → ((i : ℕ) (d : K × X) → i < length es → R (get_or es i d).0 k ≡ Greater) → IsBelowAll R k es
  below_of [] above = tt
  below_of (e ∷ es) above =
      (o.antisymm k e.0 ∙ ap ordering_reverse (above 0 e (omega arith)), below_of es (λ i d within. above (suc i) d (omega (arith, within))))

  gap_of : (es : List (K × X)) (at : ℕ) → at ≤ length es → ((i : ℕ) (d : K × X) → i < at → R (get_or es i d).0 k ≡ Less)
      → ((i : ℕ) (d : K × X) → at ≤ i → i < length es → R (get_or es i d).0 k ≡ Greater) → IsGapForKey R k es at
  gap_of es zero within before after = below_of es (λ i d in_range. after i d (omega arith) in_range)
  gap_of [] (suc at) within before after = absurd (omega (arith, within))
  gap_of (e ∷ es) (suc at) within before after = (
    o.antisymm k e.0 ∙ ap ordering_reverse (before 0 e (omega arith)),
    gap_of es at (omega (arith, within)) (λ i d lt. before (suc i) d (omega (arith, lt)))
        (λ i d le in_range. after (suc i) d (omega (arith, le)) (omega (arith, in_range))),
  )

  -- neighbours rise
  neighbours : (es : List (K × X)) → IsStrictlySortedBy R (keys_of es) → (i : ℕ) (d : K × X) → i + 1 < length es
      → is_lt (R (get_or es (i + 1) d).0 (get_or es i d).0) ≡ false
  neighbours es s i d within =
      let keys = keys_of es in
      let low : get_or keys i d.0 ≡ (get_or es i d).0 = get_or-map (λ (e : K × X). e.0) es i d d.0 (omega (arith, within)) in
      let high : get_or keys (i + 1) d.0 ≡ (get_or es (i + 1) d).0 = get_or-map (λ (e : K × X). e.0) es (i + 1) d d.0 within in
      let rise : R (get_or keys i d.0) (get_or keys (i + 1) d.0) ≡ Less =
      Less-from_sorted R keys i (i + 1) d.0 s (omega arith) (omega (arith, within, length-keys_of es)) in
      let less : R (get_or es i d).0 (get_or es (i + 1) d).0 ≡ Less = rw (low, high) at rise in
      ap is_lt (o.antisymm (get_or es (i + 1) d).0 (get_or es i d).0 ∙ ap ordering_reverse less)

  -- a search by halves ends where the key stands, or would stand
  pub searched : (es : List (K × X)) → IsStrictlySortedBy R (keys_of es) → (r : Result ℕ ℕ) → IsSearchInRange r (length es)
      → IsBinarySearchResult (λ e. R e.0 k) es r → record { found : IfOk r (IsIndexOfKey R k es); absent : IfErr r (IsGapForKey R k es) }
  searched es s (Ok at) within equal = record { found = index_is es at s within equal; absent = tt }
  searched es s (Err at) within parted =
      let parts = parted (searchable_from_sorted o (λ e. e.0) es k (λ i d low high. neighbours es s i d high)) in
      record {
        found = tt;
        absent = gap_of es at within (λ i d lt. parts.0 i d (omega arith) lt) (λ i d le in_range. parts.1 i d le in_range);
      }

-- ---- what is there, and what a change leaves

module _ {K X : Type 0} (R : K → K → Ordering) (k : K) where
  pub index-within : (es : List (K × X)) (at : ℕ) → IsIndexOfKey R k es at → at < length es
  index-within [] at here = absurd here
  index-within (e ∷ es) zero here = omega arith
  index-within (e ∷ es) (suc at) here = omega (arith, index-within es at here.1)

  pub gap-within : (es : List (K × X)) (at : ℕ) → IsGapForKey R k es at → at ≤ length es
  gap-within es zero gap = omega arith
  gap-within [] (suc at) gap = absurd gap
  gap-within (e ∷ es) (suc at) gap = omega (arith, gap-within es at gap.1)

  pub lookup_index : (es : List (K × X)) (at : ℕ) (d : K × X) → IsIndexOfKey R k es at → lookup (is_at (R k)) es ≡ Some (get_or es at d).1
  lookup_index [] at d here = absurd here
  lookup_index (e ∷ es) zero d here = rw here refl
  lookup_index (e ∷ es) (suc at) d here = rw here.0 (lookup_index es at d here.1)

  -- the entry there keeps its key
  insert_index : (es : List (K × X)) (at : ℕ) (d : K × X) (v : X) → IsIndexOfKey R k es at → insert_entry R es k v ≡ set es at ((get_or es at d).0, v)
  insert_index [] at d v here = absurd here
  insert_index (e ∷ es) zero d v here = rw here refl
  insert_index (e ∷ es) (suc at) d v here = rw here.0 (ap (λ (fs : List (K × X)). e ∷ fs) (insert_index es at d v here.1))

  -- e is the entry there, as it was read
  pub insert_over : (es : List (K × X)) (at : ℕ) (e : K × X) (v : X) → e ≡ get_or es at e → IsIndexOfKey R k es at → insert_entry R es k v ≡ set es at (e.0, v)
  insert_over es at e v is here = insert_index es at e v here ∙ ap (λ (f : K × X). set es at (f.0, v)) (sym is)

  pub remove_index : (es : List (K × X)) (at : ℕ) → IsIndexOfKey R k es at → remove_entry (is_at (R k)) es ≡ list.remove es at
  remove_index [] at here = absurd here
  remove_index (e ∷ es) zero here = rw here refl
  remove_index (e ∷ es) (suc at) here = rw here.0 (ap (λ (fs : List (K × X)). e ∷ fs) (remove_index es at here.1))

  -- what was written over an entry is gone with it
  pub remove_over : (es : List (K × X)) (at : ℕ) (e : K × X) → IsIndexOfKey R k es at → list.remove (set es at e) at ≡ list.remove es at
  remove_over [] at e here = absurd here
  remove_over (f ∷ es) zero e here = refl
  remove_over (f ∷ es) (suc at) e here = ap (λ (fs : List (K × X)). f ∷ fs) (remove_over es at e here.1)

  pub lookup_gap : (es : List (K × X)) (at : ℕ) → IsGapForKey R k es at → lookup (is_at (R k)) es ≡ None
  lookup_gap es zero gap = lookup_below R k es gap
  lookup_gap [] (suc at) gap = refl
  lookup_gap (e ∷ es) (suc at) gap = rw gap.0 (lookup_gap es at gap.1)

  pub insert_gap : (es : List (K × X)) (at : ℕ) (v : X) → IsGapForKey R k es at → insert_entry R es k v ≡ list.insert es at (k, v)
  insert_gap es zero v gap = insert_below R k v es gap
  insert_gap [] (suc at) v gap = absurd gap
  insert_gap (e ∷ es) (suc at) v gap = rw gap.0 (ap (λ (fs : List (K × X)). e ∷ fs) (insert_gap es at v gap.1))
