-- Batches become groups, each by its least prefix.
use Rattle.std.proofs.Common.{◌≡◌, ◌≢◌, ◌<◌, ◌-◌, length, None, List, [], ◌∷◌, ◌++◌, Option, Some, inl, inr, refl, sym, ap, ◌∙◌, subst, arith}
use Rattle.std.specs.Prelude.{All, Contains, reverse, slice_get}
use Rattle.std.specs.FinMap as map
use Rattle.std.proofs.lemmas.List.{length-append, reverse-append, reverse-reverse}
use Rattle.std.proofs.lemmas.List.Elements.{All-contains, All-head, Contains-append_left, Contains-push, Contains-push_cases}
use Rattle.bgp_types.specs.declared.attrs.Attrs.{Attrs}
use Rattle.bgp_types.specs.Prefixes.{PrefixValue}
use Rattle.bgp_types.specs.Tables.{prefix_cmp}
use Rattle.rib_stages.proofs.Marks.{with_here, with_there}
use Rattle.session_value.specs.Sets.{Lists}
use Rattle.update_plan.specs.Plans.{AreWholeBatches}
use Rattle.update_plan.specs.declared.batch.Batch.{Batch}
use Rattle.update_plan.proofs.Plans.{Kind}
use Rattle.audit_tables.specs.Groups.{AddsGroup, AreGroups, GroupTable, prefixes_of}
use Rattle.audit_tables.specs.declared.pending.Group.{Group}
use Rattle.audit_tables.proofs.Keeping.{no_some, one_some}
use Rattle.audit_tables.proofs.Listings.{one_or_another}

-- ---- a table with one value more

pub put_here : (t : GroupTable) (x : PrefixValue) (g : Group) → map.get (map.insert t x g) x ≡ Some g
put_here t x g = with_here t x (Some g)

pub put_there : (t : GroupTable) (x : PrefixValue) (g : Group) (y : PrefixValue) → y ≢ x → map.get (map.insert t x g) y ≡ map.get t y
put_there t x g y not = with_there t x (Some g) y not

-- ---- batch after batch

-- the group is that of a batch whose least prefix this is
pub record IsOfBatch (batches : List Batch) (first : PrefixValue) (group : Group) : Type 0 where
  pub batch : Batch
  pub among : Contains batches batch
  pub later : List PrefixValue
  pub begins : batch.prefixes ≡ first ∷ later
  pub attrs : group.attrs ≡ batch.attrs
  pub prefixes : prefixes_of group ≡ batch.prefixes

-- Each group is that of a batch, by its least prefix, and there is one for the least prefix of each batch.
pub record AreOfBatches (batches : List Batch) (groups : GroupTable) : Type 0 where
  pub each : (first : PrefixValue) (group : Group) → map.get groups first ≡ Some group → IsOfBatch batches first group
  pub all : (batch : Batch) → Contains batches batch → (first : PrefixValue) (later : List PrefixValue) → batch.prefixes ≡ first ∷ later
      → (group : Group) × (map.get groups first ≡ Some group)

pub of_none : (groups : GroupTable) → groups ≡ map.empty → AreOfBatches [] groups
of_none groups empty = record {
  each = λ first group e. absurd (no_some (map.get groups first) group
      (ap (λ (t : GroupTable). map.get t first) empty ∙ map.get-empty prefix_cmp first) e);
  all = λ batch among first later begins. let within : among.0 < 0 = among.1 in absurd (omega (arith, within));
}

module _ (xs : List Batch) (b : Batch) (old : GroupTable) (so_far : AreOfBatches xs old) where
  still : (first : PrefixValue) (group : Group) → IsOfBatch xs first group → IsOfBatch (xs ++ b ∷ []) first group
  still first group o = record {
    batch = o.batch;
    among = Contains-append_left xs (b ∷ []) o.batch o.among;
    later = o.later;
    begins = o.begins;
    attrs = o.attrs;
    prefixes = o.prefixes;
  }

  -- a batch without prefixes has no group
  of_more_none : b.prefixes ≡ [] → AreOfBatches (xs ++ b ∷ []) old
  of_more_none empty = record {
    each = λ first group e. still first group (so_far.each first group e);
    all = λ batch among first later begins. elim (Contains-push_cases xs b batch among) [
      | inl before ↦ so_far.all batch before first later begins
      | inr same ↦ let e : ◌≡◌ {A = List PrefixValue} [] (first ∷ later) =
          sym empty ∙ (ap (λ (c : Batch). c.prefixes) same ∙ begins) in absurd (let f : ⊥ = cc in f)
    ];
  }

  module _ (first : PrefixValue) (later : List PrefixValue) (group : Group) (begins : b.prefixes ≡ first ∷ later)
      (attrs : group.attrs ≡ b.attrs) (prefixes : prefixes_of group ≡ b.prefixes) (new : GroupTable) (set : new ≡ map.insert old first group) where
    get_here : map.get new first ≡ Some group
    get_here = ap (λ (t : GroupTable). map.get t first) set ∙ put_here old first group

    get_there : (x : PrefixValue) → x ≢ first → map.get new x ≡ map.get old x
    get_there x not = ap (λ (t : GroupTable). map.get t x) set ∙ put_there old first group x not

    own : IsOfBatch (xs ++ b ∷ []) first group
    own = record {
      batch = b;
      among = Contains-push xs b;
      later = later;
      begins = begins;
      attrs = attrs;
      prefixes = prefixes;
    }

    of_more : AreOfBatches (xs ++ b ∷ []) new
    of_more = record {
      each = λ x g e. elim (one_or_another first x) [
        | inl is ↦ subst (λ (y : PrefixValue). IsOfBatch (xs ++ b ∷ []) y g) (sym is) (subst (IsOfBatch (xs ++ b ∷ []) first)
            (one_some group g (sym get_here ∙ (ap (map.get new) (sym is) ∙ e))) own)
        | inr not ↦ still x g (so_far.each x g (sym (get_there x not) ∙ e))
      ];
      all = λ batch among x more is. elim (one_or_another first x) [
        | inl same ↦ (group, ap (map.get new) same ∙ get_here)
        | inr not ↦ elim (Contains-push_cases xs b batch among) [
          | inl before ↦ let g = so_far.all batch before x more is in (g.0, get_there x not ∙ g.1)
          | inr same ↦ absurd (not (heads x first more later (sym is ∙ (ap (λ (c : Batch). c.prefixes) (sym same) ∙ begins))))
        ]
      ];
    }
      where
        heads : (x y : PrefixValue) (xs ys : List PrefixValue) → x ∷ xs ≡ y ∷ ys → x ≡ y
        heads x y xs ys e = cc

-- the next batch, as a group that has its prefixes
pub of_next : (xs : List Batch) (b : Batch) (old : GroupTable) → AreOfBatches xs old → (group : Group) → group.attrs ≡ b.attrs
    → prefixes_of group ≡ b.prefixes → (new : GroupTable) → AddsGroup group old new → AreOfBatches (xs ++ b ∷ []) new
of_next xs b old so_far group attrs prefixes new adds = by_prefixes b.prefixes refl
  where
    by_prefixes : (ps : List PrefixValue) → b.prefixes ≡ ps → AreOfBatches (xs ++ b ∷ []) new
    by_prefixes [] none = subst (AreOfBatches (xs ++ b ∷ [])) (sym (adds.none (prefixes ∙ none))) (of_more_none xs b old so_far none)
    by_prefixes (first ∷ later) some = of_more xs b old so_far first later group some attrs prefixes new (adds.some first later (prefixes ∙ some))

-- ---- the last of a group's list is its least prefix

push_last : {A : Type 0} (ys : List A) (x : A) → slice_get (ys ++ x ∷ []) (length ys) ≡ Some x
push_last [] x = refl
push_last (y ∷ ys) x = push_last ys x

last_of : (xs : List PrefixValue) (first : PrefixValue) (later : List PrefixValue) → reverse xs ≡ first ∷ later → slice_get xs (length xs - 1) ≡ Some first
last_of xs first later e =
    let is : xs ≡ reverse later ++ first ∷ [] = sym (reverse-reverse xs) ∙ (ap reverse e ∙ reverse-append (first ∷ []) later) in
    let all : length xs ≡ length (reverse later ++ first ∷ []) = ap (λ (l : List PrefixValue). length l) is in
    let size : length xs - 1 ≡ length (reverse later) = omega (arith, all, length-append (reverse later) (first ∷ [])) in
    ap (slice_get xs) size ∙ (ap (λ (l : List PrefixValue). slice_get l (length (reverse later))) is ∙ push_last (reverse later) first)

module _ (group : Group) (old : GroupTable) (last : Option PrefixValue)
    (is : last ≡ slice_get group.prefixes.items (length group.prefixes.items - 1)) where
  pub adds_none : last ≡ None → AddsGroup group old old
  adds_none none = record {
    none = λ empty. refl;
    some = λ first later e. absurd (no_some last first none (is ∙ last_of group.prefixes.items first later e));
  }

  pub adds_last : (x : PrefixValue) → last ≡ Some x → (new : GroupTable) → new ≡ map.insert old x group → AddsGroup group old new
  adds_last x some new set = record {
    none = λ empty.
        let items : group.prefixes.items ≡ [] = sym (reverse-reverse group.prefixes.items) ∙ ap reverse empty in
        absurd (no_some last x (is ∙ ap (λ (l : List PrefixValue). slice_get l (length l - 1)) items) some);
    some = λ first later e. set ∙ ap (λ (y : PrefixValue). map.insert old y group)
        (one_some x first (sym some ∙ (is ∙ last_of group.prefixes.items first later e)));
  }

-- ---- all batches

module _ (Is : Kind) (to_tell : PrefixValue → Option Attrs) (batches : List Batch) (groups : GroupTable)
    (whole : AreWholeBatches Is to_tell batches) (of : AreOfBatches batches groups) where
  abbrev Each : Batch → Type 0
  Each batch = Lists (λ x. Is x × (to_tell x ≡ batch.attrs)) batch.prefixes × (batch.prefixes ≢ [])

  each_is : (batch : Batch) → Contains batches batch → Each batch
  each_is batch among = All-contains Each batches batch whole.each among

  first_told : (batch : Batch) → Contains batches batch → (first : PrefixValue) (later : List PrefixValue) → batch.prefixes ≡ first ∷ later
      → to_tell first ≡ batch.attrs
  first_told batch among first later begins = (All-head (λ x. Is x × (to_tell x ≡ batch.attrs)) first later
      (subst (All (λ x. Is x × (to_tell x ≡ batch.attrs))) begins (each_is batch among).0.each)).1

  head_of : (xs : List PrefixValue) → xs ≢ [] → (first : PrefixValue) × (later : List PrefixValue) × (xs ≡ first ∷ later)
  head_of [] some = absurd (some refl)
  head_of (x ∷ xs) some = (x, xs, refl)

  pub whole_groups : AreGroups Is to_tell groups
  whole_groups = record {
    each = λ first group e. let o = of.each first group e in record {
      later = o.later;
      begins = o.prefixes ∙ o.begins;
      all = subst (λ (v : Option Attrs). Lists (λ x. Is x × (to_tell x ≡ v)) (prefixes_of group)) (sym o.attrs)
          (subst (Lists (λ x. Is x × (to_tell x ≡ o.batch.attrs))) (sym o.prefixes) (each_is o.batch o.among).0);
    };
    all = λ x is.
        let told = whole.all x is in
        let head = head_of told.0.prefixes (each_is told.0 told.1).1 in
        let group = of.all told.0 told.1 head.0 head.1 head.2 in
        let o = of.each head.0 group.0 group.1 in (
          head.0,
          group.0,
          group.1,
          o.attrs ∙ (sym (first_told o.batch o.among head.0 o.later o.begins)
              ∙ (first_told told.0 told.1 head.0 head.1 head.2 ∙ told.2)),
        );
  }
