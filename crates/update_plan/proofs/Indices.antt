-- The UPDATEs that may be joined are found, as prefixes are added.
use Rattle.std.proofs.Common.{◌≡◌, ◌≢◌, ℕ, ◌+◌, ◌≤◌, ◌<◌, List, [], ◌∷◌, ◌++◌, length, append_assoc, length-append, get_or}
use Rattle.std.proofs.Common.{Option, Some, None, Bool, true, false, cond, refl, sym, ap, ◌∙◌, subst, arith, inl, inr}
use Rattle.std.specs.BTreeMap.{BTreeMap, get, is_at, Updates}
use Rattle.std.specs.Cmp.Lexicographic.{slice_cmp, nat_list_cmp_total}
use Rattle.std.specs.Cmp.{tied_itself}
use Rattle.std.specs.Ordering.{nat_cmp, is_eq}
use Rattle.std.specs.declared.cmp.Ordering.{Ordering}
use Rattle.std.specs.declared.cmp.Ordering.TheVariants.{Less, Equal, Greater}
use Rattle.std.specs.Prelude.{map, slice_set}
use Rattle.std.proofs.lemmas.Bool.{false≢true}
use Rattle.std.proofs.lemmas.List.{map-append, length-map, get_or_at, set_at}
use Rattle.std.proofs.lemmas.List.Elements.{All-nil, All-push}
use Rattle.std.proofs.lemmas.Map.Lookups.{exact_bytes}
use Rattle.bgp_types.specs.declared.attrs.Attrs.{Attrs}
use Rattle.bgp_types.specs.Lengths.{prefix_size}
use Rattle.bgp_types.specs.Prefixes.{PrefixValue}
use Rattle.update_plan.specs.declared.batch.Batch.{Batch}
use Rattle.update_plan.specs.Codes.{value_code}
use Rattle.update_plan.specs.Gathering.{NoneTells, LastThatTells, IsIndexOfUpdate, IndexFor, AddsToUpdates, with_prefix, batch_octets}
use Rattle.update_plan.specs.Plans.{octets}
use Rattle.update_plan.proofs.CodeLaws.{value-same}
use Rattle.update_plan.proofs.Lasts.{none_replaced, none_there, one_last, still_last}
use Rattle.update_plan.proofs.Sizes.{one_more}

abbrev pub Indices : Type 0
Indices = BTreeMap (List ℕ) ℕ

abbrev pub found : Indices → Option Attrs → Option ℕ
found indices attrs = get (slice_cmp nat_cmp) indices (value_code attrs)

equal : (o : Ordering) → is_eq o ≡ true → o ≡ Equal
equal Less e = absurd (false≢true e)
equal Equal e = refl
equal Greater e = absurd (false≢true e)

-- one value has another index, and each other value the one that it had
pub found_here : (attrs v : Option Attrs) → is_at (slice_cmp nat_cmp (value_code attrs)) (value_code v) ≡ true → attrs ≡ v
found_here attrs v e = value-same attrs v (exact_bytes (value_code attrs) (value_code v) (equal (slice_cmp nat_cmp (value_code attrs) (value_code v)) e))

pub found_other : (attrs v : Option Attrs) → is_at (slice_cmp nat_cmp (value_code attrs)) (value_code v) ≡ false → attrs ≢ v
found_other attrs v e same =
    let itself : slice_cmp nat_cmp (value_code attrs) (value_code attrs) ≡ Equal = tied_itself nat_list_cmp_total (value_code attrs) in
    false≢true (sym e ∙ (ap (λ (w : Option Attrs). is_at (slice_cmp nat_cmp (value_code attrs)) (value_code w)) (sym same) ∙ ap is_eq itself))

-- what is found for each value, where it is right for one and stays right for the others
module _ (attrs : Option Attrs) (old new : List Batch) (indices indices' : Indices) (number : ℕ) where
  abbrev FoundThen : Type 0
  FoundThen = (v : Option Attrs) → found indices' v ≡ cond (is_at (slice_cmp nat_cmp (value_code attrs)) (value_code v)) (Some number) (found indices v)

  pub found_then : FoundThen → IsIndexOfUpdate attrs new number → ((v : Option Attrs) (o : Option ℕ) → attrs ≢ v → IndexFor v old o → IndexFor v new o)
      → ((v : Option Attrs) → IndexFor v old (found indices v)) → (v : Option Attrs) → IndexFor v new (found indices' v)
  found_then then here others before v =
      elim (is_at (slice_cmp nat_cmp (value_code attrs)) (value_code v)) as (λ b. is_at (slice_cmp nat_cmp (value_code attrs)) (value_code v) ≡ b
      → found indices' v ≡ cond b (Some number) (found indices v) → IndexFor v new (found indices' v)) [
        | true ↦ λ at is. subst (IndexFor v new) (sym is) (subst (λ (w : Option Attrs). IsIndexOfUpdate w new number) (found_here attrs v at) here)
        | false ↦ λ at is. subst (IndexFor v new) (sym is) (others v (found indices v) (found_other attrs v at) (before v))
      ] refl (then v)

found_still : (attrs : Option Attrs) (indices : Indices) (number : ℕ) → found indices attrs ≡ Some number → (v : Option Attrs)
    → found indices v ≡ cond (is_at (slice_cmp nat_cmp (value_code attrs)) (value_code v)) (Some number) (found indices v)
found_still attrs indices number is v =
    elim (is_at (slice_cmp nat_cmp (value_code attrs)) (value_code v))
    as (λ b. is_at (slice_cmp nat_cmp (value_code attrs)) (value_code v) ≡ b → found indices v ≡ cond b (Some number) (found indices v)) [
      | true ↦ λ at. subst (λ (w : Option Attrs). found indices w ≡ Some number) (found_here attrs v at) is
      | false ↦ λ at. refl
    ] refl

-- ---- the octets of an UPDATE

module _ (wide : Bool) (before after : List Batch) (batch : Batch) (n : ℕ) (at : length before ≡ n) where
  abbrev sizes : List Batch → List ℕ
  sizes batches = map (batch_octets wide) batches

  length_before : length (sizes before) ≡ n
  length_before = length-map before (batch_octets wide) ∙ at

  pub octets_at : get_or (sizes (before ++ batch ∷ after)) n 0 ≡ batch_octets wide batch
  octets_at = ap (λ (l : List ℕ). get_or l n 0) (map-append (batch_octets wide) before (batch ∷ after))
      ∙ get_or_at (sizes before) (batch_octets wide batch) (sizes after) 0 n length_before

  pub octets_set : (other : Batch) (octets : ℕ) → octets ≡ batch_octets wide other
      → slice_set (sizes (before ++ batch ∷ after)) n octets ≡ sizes (before ++ other ∷ after)
  octets_set other octets is =
      ap (λ (l : List ℕ). slice_set l n octets) (map-append (batch_octets wide) before (batch ∷ after))
      ∙ (set_at (sizes before) (batch_octets wide batch) (sizes after) octets n length_before
      ∙ (ap (λ m. sizes before ++ m ∷ sizes after) is ∙ sym (map-append (batch_octets wide) before (other ∷ after))))

-- ---- a prefix joins

pub index_is : (attrs : Option Attrs) (batches : List Batch) (o : Option ℕ) (number : ℕ) → o ≡ Some number → IndexFor attrs batches o
    → IsIndexOfUpdate attrs batches number
index_is attrs batches o number e p = subst (IndexFor attrs batches) e p

pub number_in : (attrs : Option Attrs) (batches : List Batch) (number : ℕ) → IsIndexOfUpdate attrs batches number → number < length batches
number_in attrs batches number is =
    let a = ap length is.there.is in
    let b = length-append is.before (is.batch ∷ is.after) in
    let c = is.is_number in
    omega arith

joined_other : (before after : List Batch) (batch : Batch) (prefix : PrefixValue) (v : Option Attrs) (o : Option ℕ) → batch.attrs ≢ v
    → IndexFor v (before ++ batch ∷ after) o → IndexFor v (before ++ with_prefix batch prefix ∷ after) o
joined_other before after batch prefix v None apart none = none_replaced v before after batch (with_prefix batch prefix) apart none
joined_other before after batch prefix v (Some number) apart is =
    let s = still_last v before is.before after is.after batch (with_prefix batch prefix) is.batch apart apart is.there.is is.there.told is.there.last in
    record { before = s.front; batch = is.batch; after = s.after; there = s.there; is_number = is.is_number ∙ sym s.number }

module _ (wide : Bool) (attrs : Option Attrs) (prefix : PrefixValue) (old : List Batch) (counts : List ℕ)
    (counted : counts ≡ map (batch_octets wide) old) (number : ℕ) (is : IsIndexOfUpdate attrs old number) where
  count_is : get_or counts number 0 ≡ batch_octets wide is.batch
  count_is = ap (λ (l : List ℕ). get_or l number 0) (counted ∙ ap (map (batch_octets wide)) is.there.is)
      ∙ octets_at wide is.before is.after is.batch number (sym is.is_number)

  pub grown : octets wide attrs (is.batch.prefixes ++ prefix ∷ []) ≡ get_or counts number 0 + prefix_size prefix
  grown = one_more wide attrs is.batch.prefixes prefix
      ∙ ap (λ n. n + prefix_size prefix) (ap (λ (v : Option Attrs). octets wide v is.batch.prefixes) (sym is.there.told) ∙ sym count_is)

  module _ (new : List Batch) (effect : new ≡ is.before ++ with_prefix is.batch prefix ∷ is.after) where
    pub joins : get_or counts number 0 + prefix_size prefix ≤ 4096 → AddsToUpdates wide attrs prefix old new
    joins room = inl (record {
      before = is.before;
      batch = is.batch;
      after = is.after;
      there = is.there;
      fits = subst (λ n. n ≤ 4096) (sym grown) room;
      effect = effect;
    })

    pub counts_joined : slice_set counts number (get_or counts number 0 + prefix_size prefix) ≡ map (batch_octets wide) new
    counts_joined =
        let more : get_or counts number 0 + prefix_size prefix ≡ batch_octets wide (with_prefix is.batch prefix) =
        ap (λ n. n + prefix_size prefix) count_is ∙ sym (one_more wide is.batch.attrs is.batch.prefixes prefix) in
        ap (λ (l : List ℕ). slice_set l number (get_or counts number 0 + prefix_size prefix)) (counted ∙ ap (map (batch_octets wide)) is.there.is)
        ∙ (octets_set wide is.before is.after is.batch number (sym is.is_number)
        (with_prefix is.batch prefix) (get_or counts number 0 + prefix_size prefix) more
        ∙ ap (map (batch_octets wide)) (sym effect))

    joined_here : IsIndexOfUpdate attrs new number
    joined_here = record {
      before = is.before;
      batch = with_prefix is.batch prefix;
      after = is.after;
      there = record { is = effect; told = is.there.told; last = is.there.last };
      is_number = is.is_number;
    }

    pub found_joined : (indices : Indices) → found indices attrs ≡ Some number → ((v : Option Attrs) → IndexFor v old (found indices v))
        → (v : Option Attrs) → IndexFor v new (found indices v)
    found_joined indices at before = found_then attrs old new indices indices number (found_still attrs indices number at) joined_here
        (λ v o apart p. subst (λ (l : List Batch). IndexFor v l o) (sym effect) (joined_other is.before is.after is.batch prefix v o
        (λ e. apart (sym is.there.told ∙ e)) (subst (λ (l : List Batch). IndexFor v l o) is.there.is p)))
        before

-- ---- a prefix begins an UPDATE

begun_other : (old : List Batch) (batch : Batch) (v : Option Attrs) (o : Option ℕ) → batch.attrs ≢ v → IndexFor v old o → IndexFor v (old ++ batch ∷ []) o
begun_other old batch v None apart none = All-push (λ b. b.attrs ≢ v) old batch none apart
begun_other old batch v (Some number) apart is = record {
  before = is.before;
  batch = is.batch;
  after = is.after ++ batch ∷ [];
  there = record {
    is = ap (λ (l : List Batch). l ++ batch ∷ []) is.there.is ∙ append_assoc is.before (is.batch ∷ is.after) (batch ∷ []);
    told = is.there.told;
    last = All-push (λ b. b.attrs ≢ v) is.after batch is.there.last apart;
  };
  is_number = is.is_number;
}

module _ (wide : Bool) (attrs : Option Attrs) (prefix : PrefixValue) (old : List Batch) (counts : List ℕ) (counted : counts ≡ map (batch_octets wide) old) where
  full_index : (before after : List Batch) (batch : Batch) (o : Option ℕ)
      → ((number : ℕ) → o ≡ Some number → 4096 < get_or counts number 0 + prefix_size prefix)
      → IndexFor attrs old o → LastThatTells attrs old before batch after → 4096 < octets wide attrs (batch.prefixes ++ prefix ∷ [])
  full_index before after batch None full none last = absurd (none_there attrs before after batch (subst (NoneTells attrs) last.is none) last.told)
  full_index before after batch (Some number) full is last =
      let same : is.batch ≡ batch =
      one_last attrs is.before before is.after after is.batch batch (sym is.there.is ∙ last.is) is.there.told is.there.last last.told last.last in
      let size : octets wide attrs (batch.prefixes ++ prefix ∷ []) ≡ get_or counts number 0 + prefix_size prefix =
      ap (λ (b : Batch). octets wide attrs (b.prefixes ++ prefix ∷ [])) (sym same) ∙ grown wide attrs prefix old counts counted number is in
      subst (λ n. 4096 < n) (sym size) (full number refl)

  module _ (new : List Batch) (indices : Indices) (effect : new ≡ old ++ record { attrs = attrs; prefixes = prefix ∷ [] } ∷ []) where
    pub begins : ((number : ℕ) → found indices attrs ≡ Some number → 4096 < get_or counts number 0 + prefix_size prefix)
        → ((v : Option Attrs) → IndexFor v old (found indices v)) → AddsToUpdates wide attrs prefix old new
    begins full before = inr (record {
      full = λ front batch after last. full_index front after batch (found indices attrs) full (before attrs) last;
      effect = effect;
    })

    pub counts_begun : counts ++ octets wide attrs (prefix ∷ []) ∷ [] ≡ map (batch_octets wide) new
    counts_begun =
        ap (λ (l : List ℕ). l ++ octets wide attrs (prefix ∷ []) ∷ []) counted
        ∙ (sym (map-append (batch_octets wide) old (record { attrs = attrs; prefixes = prefix ∷ [] } ∷ [])) ∙ ap (map (batch_octets wide)) (sym effect))

    begun_here : IsIndexOfUpdate attrs new (length old)
    begun_here = record {
      before = old;
      batch = record { attrs = attrs; prefixes = prefix ∷ [] };
      after = [];
      there = record { is = effect; told = refl; last = All-nil (λ b. b.attrs ≢ attrs) };
      is_number = refl;
    }

    pub found_begun : (indices' : Indices) → Updates (slice_cmp nat_cmp) indices indices' (value_code attrs) (Some (length old))
        → ((v : Option Attrs) → IndexFor v old (found indices v)) → (v : Option Attrs) → IndexFor v new (found indices' v)
    found_begun indices' updates before = found_then attrs old new indices indices' (length old) (λ v. updates.0 (value_code v)) begun_here
        (λ v o apart p.
        subst (λ (l : List Batch). IndexFor v l o) (sym effect) (begun_other old (record { attrs = attrs; prefixes = prefix ∷ [] }) v o apart p))
        before
