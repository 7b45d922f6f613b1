-- The group of the least prefix of all: what is told of it first, and what stays of it.
use Rattle.std.proofs.Common.{◌≡◌, ◌≢◌, ℕ, ◌+◌, ◌<◌, ◌≤◌, ◌==◌, ◌↔◌, Bool, true, false, ◌||◌, List, [], ◌∷◌, ◌++◌, length, take, drop, Option, Some, None}
use Rattle.std.proofs.Common.{is_some, inl, inr, refl, sym, ap, ◌∙◌, subst, arith}
use Rattle.std.specs.Prelude.{All, IsTrue}
use Rattle.std.specs.FinMap as map
use Rattle.std.specs.List.{list_any}
use Rattle.std.specs.List.Sorted.{IsStrictlySortedBy}
use Rattle.std.specs.Ordering.{is_lt}
use Rattle.std.proofs.lemmas.Bool.{eq-eqb, eqb-true, false≢true}
use Rattle.std.proofs.lemmas.List.{length-append, length-take-le, take-append-drop}
use Rattle.std.proofs.lemmas.List.Elements.{All-head}
use Rattle.std.proofs.lemmas.List.Folds.{list_any-append}
use Rattle.bgp_types.specs.declared.attrs.Attrs.{Attrs}
use Rattle.bgp_types.specs.Prefixes.{PrefixValue, same_prefix}
use Rattle.bgp_types.specs.Tables.{first_above, prefix_cmp}
use Rattle.bgp_types.proofs.TableLaws.{exact_prefixes, prefix_total}
use Rattle.graft_model.proofs.Rising.{one_least, one_list}
use Rattle.rib_stages.proofs.Drops.{no_least_is}
use Rattle.rib_stages.proofs.Marks.{with_here, with_there}
use Rattle.session_value.specs.Sets.{Lists}
use Rattle.update_plan.specs.Plans.{IsLeastPrefix, Without}
use Rattle.update_plan.specs.declared.batch.Batch.{Batch}
use Rattle.update_plan.proofs.Listed.{member_has}
use Rattle.update_plan.proofs.Plans.{Kind, same_or_apart}
use Rattle.update_plan.proofs.Wholes.{lists_of_same}
use Rattle.audit_tables.specs.Groups.{AddsGroup, AreFirstAlike, AreGroups, GroupTable, IsFirstOf, IsGroup, IsPending, LosesFirst, prefixes_of}
use Rattle.audit_tables.specs.declared.pending.Group.{Group}
use Rattle.audit_tables.proofs.Grouping.{put_here, put_there}
use Rattle.audit_tables.proofs.Keeping.{no_some, one_some}
use Rattle.audit_tables.proofs.Listings.{drop_front, none_below_head, none_below_least, not_below_through, one_or_another, rest_lists}

-- ---- groups of a kind, however that is said

pub groups_of_same : (Is Js : Kind) (to_tell : PrefixValue → Option Attrs) → ((x : PrefixValue) → Is x → Js x) → ((x : PrefixValue) → Js x → Is x)
    → (groups : GroupTable) → AreGroups Is to_tell groups → AreGroups Js to_tell groups
groups_of_same Is Js to_tell to from groups are = record {
  each = λ first group e. let g = are.each first group e in record {
    later = g.later;
    begins = g.begins;
    all = lists_of_same (λ x. Is x × (to_tell x ≡ group.attrs)) (λ x. Js x × (to_tell x ≡ group.attrs))
        (λ x h. (to x h.0, h.1)) (λ x h. (from x h.0, h.1)) (prefixes_of group) g.all;
  };
  all = λ x is. are.all x (from x is);
}

-- the least prefix of a group is one of its prefixes
first_of : (Is : Kind) (to_tell : PrefixValue → Option Attrs) (groups : GroupTable) → AreGroups Is to_tell groups → (first : PrefixValue) (group : Group)
    → map.get groups first ≡ Some group → Is first × (to_tell first ≡ group.attrs)
first_of Is to_tell groups are first group e = let g = are.each first group e in
    All-head (λ x. Is x × (to_tell x ≡ group.attrs)) first g.later (subst (All (λ x. Is x × (to_tell x ≡ group.attrs))) g.begins g.all.each)

module _ (Is : Kind) (to_tell : PrefixValue → Option Attrs) (groups : GroupTable) (are : AreGroups Is to_tell groups) where
  abbrev Tells : Option Attrs → Kind
  Tells v x = Is x × (to_tell x ≡ v)

  first_is : (first : PrefixValue) (group : Group) → map.get groups first ≡ Some group → Tells group.attrs first
  first_is = first_of Is to_tell groups are

  not_below : (first : PrefixValue) (group : Group) → map.get groups first ≡ Some group → (x : PrefixValue) → Tells group.attrs x
      → is_lt (prefix_cmp x first) ≡ false
  not_below first group e x h = let g = are.each first group e in
      none_below_head first g.later (subst (IsStrictlySortedBy prefix_cmp) g.begins g.all.rising) x
      (subst (λ (l : List PrefixValue). list_any (same_prefix x) l ≡ true) g.begins (g.all.all x h))

  -- two groups of one value are one
  heads : (x y : PrefixValue) (xs ys : List PrefixValue) → x ∷ xs ≡ y ∷ ys → x ≡ y
  heads x y xs ys e = cc

  one_group : (p q : PrefixValue) (g h : Group) → map.get groups p ≡ Some g → map.get groups q ≡ Some h → g.attrs ≡ h.attrs → p ≡ q
  one_group p q g h e f same =
      let a = are.each p g e in
      let b = are.each q h f in
      let lists : prefixes_of g ≡ prefixes_of h = one_list (Tells h.attrs) (prefixes_of g) (prefixes_of h)
      (subst (λ (v : Option Attrs). Lists (Tells v) (prefixes_of g)) same a.all) b.all in
      heads p q a.later b.later (sym a.begins ∙ (lists ∙ b.begins))

  -- where there is no group, nothing is of the kind, and the other way round
  pub none_is : ((first : PrefixValue) → map.get groups first ≡ None) → (x : PrefixValue) → ¬ Is x
  none_is none x is = let a = are.all x is in no_some (map.get groups a.0) a.1 (none a.0) a.2

  pub no_group : ((x : PrefixValue) → ¬ Is x) → (first : PrefixValue) → map.get groups first ≡ None
  no_group none first = by_value (map.get groups first) refl
    where
      by_value : (o : Option Group) → map.get groups first ≡ o → o ≡ None
      by_value None e = refl
      by_value (Some group) e = absurd (none first (first_is first group e).0)

  pub none_alike : ((first : PrefixValue) → map.get groups first ≡ None) → (count : ℕ) (attrs : Option Attrs) (prefixes : List PrefixValue)
      → ¬ AreFirstAlike Is to_tell count attrs prefixes
  none_alike none count attrs prefixes alike = none_is none alike.first alike.least.is

  -- the number of groups tells whether there is one
  none_of_length : map.len groups ≡ 0 → (first : PrefixValue) → map.get groups first ≡ None
  none_of_length none first = ap (λ (t : GroupTable). map.get t first) (map.empty_of_len groups none) ∙ map.get-empty prefix_cmp first

  length_of_none : ((first : PrefixValue) → map.get groups first ≡ None) → map.len groups ≡ 0
  length_of_none none = ap map.len (map.same_map prefix_total exact_prefixes groups map.empty (λ q. none q ∙ sym (map.get-empty prefix_cmp q)))
      ∙ map.len-empty prefix_cmp Group

  pub empty_is : (len : ℕ) → len ≡ map.len groups → IsTrue (len == 0) ↔ ((x : PrefixValue) → ¬ Is x)
  empty_is len is = (
    λ e x. none_is (none_of_length (sym is ∙ eqb-true len 0 e)) x,
    λ none. eq-eqb len 0 (is ∙ length_of_none (no_group none)),
  )

  -- ---- the least group

  module _ (first : PrefixValue) (group : Group) (at_first : map.get groups first ≡ Some group)
      (below : (q : PrefixValue) → is_some (map.get groups q) ≡ true → is_lt (prefix_cmp q first) ≡ false) where
    is_least : IsLeastPrefix Is first
    is_least = record {
      is = (first_is first group at_first).0;
      least = λ x is. let a = are.all x is in
          not_below_through x a.0 first (not_below a.0 a.1 a.2 x (is, sym a.3)) (below a.0 (ap is_some a.2));
    }

    -- so many of its prefixes
    pub first_alike : (count : ℕ) → count ≤ length (prefixes_of group)
        → AreFirstAlike Is to_tell count group.attrs (take count (prefixes_of group))
    first_alike count fits = record {
      first = first;
      least = is_least;
      told_first = sym (first_is first group at_first).1;
      later = drop count (prefixes_of group);
      alike = subst (Lists (Tells group.attrs)) (sym (take-append-drop count (prefixes_of group))) (are.each first group at_first).all;
      size = length-take-le count (prefixes_of group) fits;
    }

    module _ (count : ℕ) (attrs : Option Attrs) (prefixes : List PrefixValue) (alike : AreFirstAlike Is to_tell count attrs prefixes) where
      attrs_are : attrs ≡ group.attrs
      attrs_are = alike.told_first ∙ (ap to_tell
          (one_least alike.first first (is_least.least alike.first alike.least.is) (alike.least.least first is_least.is))
          ∙ (first_is first group at_first).1)

      pub listed : prefixes ++ alike.later ≡ prefixes_of group
      listed = one_list (Tells group.attrs) (prefixes ++ alike.later) (prefixes_of group)
          (subst (λ (v : Option Attrs). Lists (Tells v) (prefixes ++ alike.later)) attrs_are alike.alike) (are.each first group at_first).all

      pub are_enough : count ≤ length (prefixes_of group)
      are_enough =
          let long : length (prefixes ++ alike.later) ≡ length prefixes + length alike.later = length-append prefixes alike.later in
          let same : length (prefixes ++ alike.later) ≡ length (prefixes_of group) = ap length listed in
          omega (arith, long, same, alike.size)

      -- ---- what stays once they were told

      -- those that are told something else
      abbrev Others : Kind
      Others x = Is x × (to_tell x ≢ group.attrs)

      others_stay : (new : GroupTable) → new ≡ map.remove groups first → AreGroups Others to_tell new
      others_stay new removed = record {
        each = λ p g e. elim (one_or_another first p) [
          | inl is ↦ absurd (no_some (map.get new p) g (ap (map.get new) is ∙ gone) e)
          | inr not ↦ let there = sym (stays p not) ∙ e in let old = are.each p g there in record {
            later = old.later;
            begins = old.begins;
            all = lists_of_same (Tells g.attrs) (λ x. Others x × (to_tell x ≡ g.attrs))
                (λ x h. ((h.0, λ same. not (one_group p first g group there at_first (sym h.1 ∙ same))), h.1))
                (λ x h. (h.0.0, h.1)) (prefixes_of g) old.all;
          }
        ];
        all = λ x h. let a = are.all x h.0 in elim (one_or_another first a.0) [
          | inl is ↦ absurd (h.1 (sym a.3 ∙ ap (λ (g : Group). g.attrs)
              (one_some a.1 group (sym a.2 ∙ (ap (map.get groups) is ∙ at_first)))))
          | inr not ↦ (a.0, a.1, stays a.0 not ∙ a.2, a.3)
        ];
      }
        where
          gone : map.get new first ≡ None
          gone = ap (λ (t : GroupTable). map.get t first) removed ∙ with_here groups first None

          stays : (p : PrefixValue) → p ≢ first → map.get new p ≡ map.get groups p
          stays p not = ap (λ (t : GroupTable). map.get t p) removed ∙ with_there groups first None p not

      -- the rest of the group
      rest : Lists (λ x. Without Is prefixes x × (to_tell x ≡ group.attrs)) alike.later
      rest = lists_of_same (Without (Tells group.attrs) prefixes) (λ x. Without Is prefixes x × (to_tell x ≡ group.attrs))
          (λ x h. ((h.0.0, h.1), h.0.1)) (λ x h. ((h.0.0, h.1), h.0.1)) alike.later
          (rest_lists (Tells group.attrs) prefixes alike.later
          (subst (λ (v : Option Attrs). Lists (Tells v) (prefixes ++ alike.later)) attrs_are alike.alike))

      -- none of the others was told
      untold : (x : PrefixValue) → Others x → Without Is prefixes x
      untold x other = (other.0, by_test (list_any (same_prefix x) prefixes) refl)
        where
          by_test : (b : Bool) → list_any (same_prefix x) prefixes ≡ b → b ≡ false
          by_test true e = absurd (other.1 (member_has (Tells group.attrs) x (prefixes ++ alike.later)
              (subst (All (Tells group.attrs)) (sym listed) (are.each first group at_first).all.each)
              (list_any-append (same_prefix x) prefixes alike.later
              ∙ ap (λ (b : Bool). b || list_any (same_prefix x) alike.later) e)).1)
          by_test false e = refl

      module _ (mid : GroupTable) (removed : mid ≡ map.remove groups first) where
        -- nothing of the group stays
        pub told_whole : alike.later ≡ [] → AreGroups (Without Is prefixes) to_tell mid
        told_whole none = groups_of_same Others (Without Is prefixes) to_tell untold
            (λ x h. (h.0, λ same. false≢true (subst (λ (l : List PrefixValue). list_any (same_prefix x) l ≡ true) none (rest.all x (h, same)))))
            mid (others_stay mid removed)

        -- the rest of the group stays, by its own least prefix
        module _ (next : PrefixValue) (more : List PrefixValue) (left : alike.later ≡ next ∷ more) (part : Group) (attrs_same : part.attrs ≡ group.attrs)
            (prefixes_left : prefixes_of part ≡ alike.later) (new : GroupTable) (set : new ≡ map.insert mid next part) where
          here : map.get new next ≡ Some part
          here = ap (λ (t : GroupTable). map.get t next) set ∙ put_here mid next part

          elsewhere : (p : PrefixValue) → p ≢ next → map.get new p ≡ map.get mid p
          elsewhere p not = ap (λ (t : GroupTable). map.get t p) set ∙ put_there mid next part p not

          next_told : to_tell next ≡ group.attrs
          next_told = (All-head (λ x. Without Is prefixes x × (to_tell x ≡ group.attrs)) next more
              (subst (All (λ x. Without Is prefixes x × (to_tell x ≡ group.attrs))) left rest.each)).1

          other_told : (p : PrefixValue) (g : Group) → map.get mid p ≡ Some g → (to_tell p ≢ group.attrs) × (to_tell p ≡ g.attrs)
          other_told p g e = let f = first_of Others to_tell mid (others_stay mid removed) p g e in (f.0.1, f.1)

          own : IsGroup (Without Is prefixes) to_tell next part
          own = record {
            later = more;
            begins = prefixes_left ∙ left;
            all = subst (λ (v : Option Attrs). Lists (λ x. Without Is prefixes x × (to_tell x ≡ v)) (prefixes_of part)) (sym attrs_same)
                (subst (Lists (λ x. Without Is prefixes x × (to_tell x ≡ group.attrs))) (sym prefixes_left) rest);
          }

          another : (p : PrefixValue) (g : Group) → map.get mid p ≡ Some g → IsGroup (Without Is prefixes) to_tell p g
          another p g e = let old = (others_stay mid removed).each p g e in let told = other_told p g e in record {
            later = old.later;
            begins = old.begins;
            all = lists_of_same (λ x. Others x × (to_tell x ≡ g.attrs)) (λ x. Without Is prefixes x × (to_tell x ≡ g.attrs))
                (λ x h. (untold x h.0, h.1)) (λ x h. ((h.0.0, λ same. told.0 (told.1 ∙ (sym h.1 ∙ same))), h.1)) (prefixes_of g) old.all;
          }

          pub told_part : AreGroups (Without Is prefixes) to_tell new
          told_part = record {
            each = λ p g e. elim (one_or_another next p) [
              | inl is ↦ subst (λ (q : PrefixValue). IsGroup (Without Is prefixes) to_tell q g) (sym is)
                  (subst (IsGroup (Without Is prefixes) to_tell next) (one_some part g (sym here ∙ (ap (map.get new) (sym is) ∙ e))) own)
              | inr not ↦ another p g (sym (elsewhere p not) ∙ e)
            ];
            all = λ x h. elim (same_or_apart (to_tell x) group.attrs) [
              | inl same ↦ (next, part, here, attrs_same ∙ sym same)
              | inr apart ↦ let a = (others_stay mid removed).all x (h.0, apart) in elim (one_or_another next a.0) [
                | inl is ↦ absurd ((other_told a.0 a.1 a.2).0 (ap to_tell is ∙ next_told))
                | inr not ↦ (a.0, a.1, elsewhere a.0 not ∙ a.2, a.3)
              ]
            ];
          }

-- ---- the least group of a table

module _ (groups : GroupTable) (count : ℕ) where
  -- there is no group
  module _ (none : first_above None (map.keys groups) ≡ None) where
    no_groups : (first : PrefixValue) → map.get groups first ≡ None
    no_groups first = ap (λ (t : GroupTable). map.get t first) (no_least_is groups none) ∙ map.get-empty prefix_cmp first

    pub nothing_first : (Is : Kind) (to_tell : PrefixValue → Option Attrs) → AreGroups Is to_tell groups → (attrs : Option Attrs) (prefixes : List PrefixValue)
        → ¬ AreFirstAlike Is to_tell count attrs prefixes
    nothing_first Is to_tell are = none_alike Is to_tell groups are no_groups count

    pub loses_nothing : (after : GroupTable) → LosesFirst count groups after
    loses_nothing after telling attrs prefixes are alike = absurd (nothing_first (IsPending telling) telling.to_tell are attrs prefixes alike)

  module _ (first : PrefixValue) (group : Group) (least : first_above None (map.keys groups) ≡ Some first) (at_first : map.get groups first ≡ Some group) where
    below : (q : PrefixValue) → is_some (map.get groups q) ≡ true → is_lt (prefix_cmp q first) ≡ false
    below q there = none_below_least groups first least q there

    module _ (Is : Kind) (to_tell : PrefixValue → Option Attrs) (are : AreGroups Is to_tell groups) where
      pub batch_is : (batch : Batch) → IsFirstOf count group batch → AreFirstAlike Is to_tell count batch.attrs batch.prefixes
      batch_is batch of = subst (λ (v : Option Attrs). AreFirstAlike Is to_tell count v batch.prefixes) (sym of.attrs)
          (subst (AreFirstAlike Is to_tell count group.attrs) (sym of.prefixes) (first_alike Is to_tell groups are first group at_first below count of.enough))

      pub no_batch : length (prefixes_of group) < count → (attrs : Option Attrs) (prefixes : List PrefixValue) → ¬ AreFirstAlike Is to_tell count attrs prefixes
      no_batch few attrs prefixes alike =
          let enough = are_enough Is to_tell groups are first group at_first below count attrs prefixes alike in
          let b : ⊥ = omega (arith, few, enough) in b

    -- ---- what stays once they were told

    pub loses_none : length (prefixes_of group) < count → (after : GroupTable) → LosesFirst count groups after
    loses_none few after telling attrs prefixes are alike = absurd (no_batch (IsPending telling) telling.to_tell are few attrs prefixes alike)

    module _ (mid : GroupTable) (removed : mid ≡ map.remove groups first) (left : Group) (attrs_same : left.attrs ≡ group.attrs)
        (cut : prefixes_of left ≡ drop count (prefixes_of group)) (after : GroupTable) (adds : AddsGroup left mid after) where
      stays : (Is : Kind) (to_tell : PrefixValue → Option Attrs) (are : AreGroups Is to_tell groups) (attrs : Option Attrs) (prefixes : List PrefixValue)
          → AreFirstAlike Is to_tell count attrs prefixes → AreGroups (Without Is prefixes) to_tell after
      stays Is to_tell are attrs prefixes alike = by_rest alike.later refl
        where
          later_are : prefixes_of left ≡ alike.later
          later_are = cut ∙ (ap (drop count) (sym (listed Is to_tell groups are first group at_first below count attrs prefixes alike))
              ∙ drop_front prefixes alike.later count alike.size)

          by_rest : (rest : List PrefixValue) → alike.later ≡ rest → AreGroups (Without Is prefixes) to_tell after
          by_rest [] none = subst (AreGroups (Without Is prefixes) to_tell) (sym (adds.none (later_are ∙ none)))
              (told_whole Is to_tell groups are first group at_first below count attrs prefixes alike mid removed none)
          by_rest (next ∷ more) some = told_part Is to_tell groups are first group at_first below count attrs prefixes alike mid removed next more some left
              attrs_same later_are after (adds.some next more (later_are ∙ some))

      pub loses_first : LosesFirst count groups after
      loses_first telling attrs prefixes are alike = stays (IsPending telling) telling.to_tell are attrs prefixes alike
