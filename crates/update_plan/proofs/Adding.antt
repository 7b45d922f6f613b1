-- What a call leaves that adds a prefix.
use Rattle.std.proofs.Common.{◌≡◌, ℕ, ◌+◌, ◌≤◌, ◌<◌, List, [], ◌∷◌, ◌++◌, length, get_or, Option, Some, sym, ap, ◌∙◌, subst, arith}
use Rattle.std.specs.Prelude.{Result, Ok, Err, OnOk, map, slice_set}
use Rattle.std.specs.BTreeMap.{get, Updates}
use Rattle.std.specs.Cmp.Lexicographic.{slice_cmp}
use Rattle.std.specs.Ordering.{nat_cmp}
use Rattle.std.proofs.lemmas.List.{length-map}
use Rattle.bgp_types.specs.declared.attrs.Attrs.{Attrs}
use Rattle.bgp_types.specs.Lengths.{prefix_size}
use Rattle.bgp_types.specs.Prefixes.{PrefixValue}
use Rattle.update_plan.specs.declared.batch.Batch.{Batch}
use Rattle.update_plan.specs.declared.gather.Gathered.{Gathered}
use Rattle.update_plan.specs.Codes.{value_code}
use Rattle.update_plan.specs.Gathering.{IsIndexOfUpdate, IndexFor, GatheredInvariant, AddsToUpdates, batch_octets, with_prefix}
use Rattle.update_plan.specs.Plans.{octets}
use Rattle.update_plan.proofs.Fits.{small}
use Rattle.update_plan.proofs.Indices.{found, index_is, number_in, joins, counts_joined, found_joined, begins, counts_begun, found_begun}

pub few_octets : (prefix : PrefixValue) (len : ℕ) → len ≡ prefix_size prefix → len ≤ 4096
few_octets prefix len e = let size = small prefix in omega arith

module _ (old : Gathered) (attrs : Option Attrs) (code : List ℕ) (keeps : GatheredInvariant old) (code_is : code ≡ value_code attrs) where
  module _ (number : ℕ) (at : get (slice_cmp nat_cmp) old.indices code ≡ Some number) where
    at_value : found old.indices attrs ≡ Some number
    at_value = subst (λ c. get (slice_cmp nat_cmp) old.indices c ≡ Some number) code_is at

    there : IsIndexOfUpdate attrs old.batches.items number
    there = index_is attrs old.batches.items (found old.indices attrs) number at_value (keeps.found attrs)

    pub among : number < length old.batches.items
    among = number_in attrs old.batches.items number there

    pub is_counted : number < length old.octets.items
    is_counted = subst (λ n. number < n) (sym (ap length keeps.counted ∙ length-map old.batches.items (batch_octets old.wide))) among

  module _ (new : Gathered) (prefix : PrefixValue) (len : ℕ) (len_is : len ≡ prefix_size prefix) where
    module _ (number : ℕ) (at : get (slice_cmp nat_cmp) old.indices code ≡ Some number) where
      abbrev Joined : {A E : Type 0} → Result A E → Type 0
      Joined r = (before : List Batch) (batch : Batch) (after : List Batch) → old.batches.items ≡ before ++ batch ∷ after → length before ≡ number
          → OnOk r (new.batches.items ≡ before ++ with_prefix batch prefix ∷ after)

      pub joins_ok : {A E : Type 0} (r : Result A E) → get_or old.octets.items number 0 + len ≤ 4096 → Joined r
          → OnOk r (AddsToUpdates old.wide attrs prefix old.batches.items new.batches.items)
      joins_ok (Ok a) room h =
          let is = there number at in
          joins old.wide attrs prefix old.batches.items old.octets.items keeps.counted number is new.batches.items
          (h is.before is.batch is.after is.there.is (sym is.is_number))
          (subst (λ n. get_or old.octets.items number 0 + n ≤ 4096) len_is room)
      joins_ok (Err e) room h = tt

      pub keeps_joins : {A E : Type 0} (r : Result A E) → Joined r → OnOk r (new.wide ≡ old.wide)
          → OnOk r (new.octets.items ≡ slice_set old.octets.items number (get_or old.octets.items number 0 + len)) → OnOk r (new.indices ≡ old.indices)
          → OnOk r (GatheredInvariant new)
      keeps_joins (Ok a) h wide counts same =
          let is = there number at in
          let effect = h is.before is.batch is.after is.there.is (sym is.is_number) in
          record {
            found = λ v. subst (λ o. IndexFor v new.batches.items o) (ap (λ p. found p v) (sym same)) (found_joined old.wide attrs prefix
                old.batches.items old.octets.items keeps.counted number is new.batches.items effect old.indices (at_value number at) keeps.found v);
            counted = subst (λ w. new.octets.items ≡ map (batch_octets w) new.batches.items) (sym wide)
                (counts ∙ (ap (λ n. slice_set old.octets.items number (get_or old.octets.items number 0 + n)) len_is
                ∙ counts_joined old.wide attrs prefix old.batches.items old.octets.items keeps.counted number is new.batches.items effect));
          }
      keeps_joins (Err e) h wide counts same = tt

    module _ (full : (number : ℕ) → get (slice_cmp nat_cmp) old.indices code ≡ Some number → 4096 < get_or old.octets.items number 0 + len) where
      abbrev Begun : Type 0
      Begun = new.batches.items ≡ old.batches.items ++ record { attrs = attrs; prefixes = prefix ∷ [] } ∷ []

      is_full : (number : ℕ) → found old.indices attrs ≡ Some number → 4096 < get_or old.octets.items number 0 + prefix_size prefix
      is_full number at = subst (λ n. 4096 < get_or old.octets.items number 0 + n) len_is
          (full number (subst (λ c. get (slice_cmp nat_cmp) old.indices c ≡ Some number) (sym code_is) at))

      pub begins_ok : {A E : Type 0} (r : Result A E) → OnOk r Begun → OnOk r (AddsToUpdates old.wide attrs prefix old.batches.items new.batches.items)
      begins_ok (Ok a) effect =
          begins old.wide attrs prefix old.batches.items old.octets.items keeps.counted new.batches.items old.indices effect is_full keeps.found
      begins_ok (Err e) effect = tt

      pub keeps_begins : {A E : Type 0} (r : Result A E) → OnOk r Begun → OnOk r (new.wide ≡ old.wide)
          → OnOk r (new.octets.items ≡ old.octets.items ++ octets old.wide attrs (prefix ∷ []) ∷ [])
          → OnOk r (Updates (slice_cmp nat_cmp) old.indices new.indices code (Some (length old.batches.items))) → OnOk r (GatheredInvariant new)
      keeps_begins (Ok a) effect wide counts updates = record {
        found = found_begun old.wide attrs prefix old.batches.items old.octets.items keeps.counted new.batches.items old.indices effect new.indices
            (subst (λ c. Updates (slice_cmp nat_cmp) old.indices new.indices c (Some (length old.batches.items))) code_is updates) keeps.found;
        counted = subst (λ w. new.octets.items ≡ map (batch_octets w) new.batches.items) (sym wide)
            (counts ∙ counts_begun old.wide attrs prefix old.batches.items old.octets.items keeps.counted new.batches.items old.indices effect);
      }
      keeps_begins (Err e) effect wide counts updates = tt
