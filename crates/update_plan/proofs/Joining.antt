-- What a call leaves that adds a prefix to its batch.
use Rattle.std.proofs.Common.{◌≡◌, ℕ, ◌<◌, false, List, [], ◌∷◌, ◌++◌, length, Option, Some, None, refl, sym, ap, subst, inl, inr}
use Rattle.std.specs.Prelude.{Result, Ok, Err, OnOk, map}
use Rattle.std.specs.BTreeMap.{get, Updates}
use Rattle.std.specs.Cmp.Lexicographic.{slice_cmp}
use Rattle.std.specs.Ordering.{nat_cmp}
use Rattle.bgp_types.specs.declared.attrs.Attrs.{Attrs}
use Rattle.bgp_types.specs.Prefixes.{PrefixValue}
use Rattle.update_plan.specs.declared.batch.Batch.{Batch}
use Rattle.update_plan.specs.declared.grouping.Grouped.{Grouped}
use Rattle.update_plan.specs.Codes.{value_code}
use Rattle.update_plan.specs.Gathering.{AddsToBatches, IsIndexOfUpdate, IndexFor, GroupedInvariant, NoneTells, batch_octets, with_prefix}
use Rattle.update_plan.proofs.Indices.{found, index_is, number_in, found_joined, found_begun}

module _ (old : Grouped) (attrs : Option Attrs) (code : List ℕ) (keeps : GroupedInvariant old) (code_is : code ≡ value_code attrs) where
  module _ (number : ℕ) (at : get (slice_cmp nat_cmp) old.indices code ≡ Some number) where
    at_value : found old.indices attrs ≡ Some number
    at_value = subst (λ c. get (slice_cmp nat_cmp) old.indices c ≡ Some number) code_is at

    there : IsIndexOfUpdate attrs old.batches.items number
    there = index_is attrs old.batches.items (found old.indices attrs) number at_value (keeps.found attrs)

    pub among : number < length old.batches.items
    among = number_in attrs old.batches.items number there

    module _ (new : Grouped) (prefix : PrefixValue) where
      abbrev Joined : {A E : Type 0} → Result A E → Type 0
      Joined r = (before : List Batch) (batch : Batch) (after : List Batch) → old.batches.items ≡ before ++ batch ∷ after → length before ≡ number
          → OnOk r (new.batches.items ≡ before ++ with_prefix batch prefix ∷ after)

      pub joins_ok : {A E : Type 0} (r : Result A E) → Joined r → OnOk r (AddsToBatches attrs prefix old.batches.items new.batches.items)
      joins_ok (Ok a) h = inl (record {
        before = there.before;
        batch = there.batch;
        after = there.after;
        there = there.there;
        effect = h there.before there.batch there.after there.there.is (sym there.is_number);
      })
      joins_ok (Err e) h = tt

      pub keeps_joins : {A E : Type 0} (r : Result A E) → Joined r → OnOk r (new.indices ≡ old.indices) → OnOk r (GroupedInvariant new)
      keeps_joins (Ok a) h same = record {
        found = λ v. subst (λ o. IndexFor v new.batches.items o) (ap (λ p. found p v) (sym same)) (found_joined false attrs prefix
            old.batches.items (map (batch_octets false) old.batches.items) refl number there new.batches.items
            (h there.before there.batch there.after there.there.is (sym there.is_number)) old.indices at_value keeps.found v);
      }
      keeps_joins (Err e) h same = tt

  module _ (new : Grouped) (prefix : PrefixValue) (none : get (slice_cmp nat_cmp) old.indices code ≡ None) where
    abbrev Begins : Type 0
    Begins = new.batches.items ≡ old.batches.items ++ record { attrs = attrs; prefixes = prefix ∷ [] } ∷ []

    none_tells : NoneTells attrs old.batches.items
    none_tells = subst (IndexFor attrs old.batches.items) (subst (λ c. get (slice_cmp nat_cmp) old.indices c ≡ None) code_is none) (keeps.found attrs)

    pub begins_ok : {A E : Type 0} (r : Result A E) → OnOk r Begins → OnOk r (AddsToBatches attrs prefix old.batches.items new.batches.items)
    begins_ok (Ok a) effect = inr (record { none = none_tells; effect = effect })
    begins_ok (Err e) effect = tt

    pub keeps_begins : {A E : Type 0} (r : Result A E) → OnOk r Begins
        → OnOk r (Updates (slice_cmp nat_cmp) old.indices new.indices code (Some (length old.batches.items))) → OnOk r (GroupedInvariant new)
    keeps_begins (Ok a) effect updates = record {
      found = found_begun false attrs prefix old.batches.items (map (batch_octets false) old.batches.items) refl new.batches.items old.indices effect
          new.indices (subst (λ c. Updates (slice_cmp nat_cmp) old.indices new.indices c (Some (length old.batches.items))) code_is updates) keeps.found;
    }
    keeps_begins (Err e) effect updates = tt
