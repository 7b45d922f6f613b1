-- The best of the groups' champions is the choice.
use Rattle.std.proofs.Common.{◌≡◌, ℕ, ◌==◌, List, [], ◌∷◌, ◌++◌, Option, Some, None, refl, sym, ap, ◌∙◌, subst}
use Rattle.std.specs.Prelude.{Contains, IsNone, option_map}
use Rattle.std.specs.List.{filter_map, cons_option}
use Rattle.std.specs.Map.{keys_of, values_of}
use Rattle.std.specs.Ordering.{nat_cmp}
use Rattle.std.specs.Cmp.{IsStrictWeakOrder}
use Rattle.std.proofs.lemmas.Cmp.{nat_cmp_total, eq_by_cmp_equiv}
use Rattle.std.proofs.lemmas.Grind.{fold-append}
use Rattle.std.proofs.lemmas.List.Elements.{filter_map-append}
use Rattle.std.proofs.lemmas.List.MinMax.{ranks_by}
use Rattle.std.proofs.lemmas.Map.Keys.{IsDistinct-from_sorted}
use Rattle.std.proofs.lemmas.Map.Lookups.{exact_unsigned}
use Rattle.std.proofs.lemmas.Map.Views.{Contains-from_lookup, lookup-from_Contains, tells_apart}
use Rattle.bgp_types.specs.declared.rank.From.{From}
use Rattle.decision_core.specs.Choice.{keep, first, choice}
use Rattle.decision_core.specs.Search.{pick, best_by}
use Rattle.decision_core.proofs.Filters.{IsStrictWeakOrder-in_turn, first-keep, best_by-none}
use Rattle.decision_core.proofs.NineRules.{on, on_order, choice-none}
use Rattle.decision_core.proofs.AnyOrder.{Contains-keep, keep-unbeaten}
use Rattle.decision_groups.specs.Order.{RankedSource, from_order, IsInOrder}
use Rattle.decision_groups.specs.Champions.{neighbour_group}
use Rattle.decision_groups.specs.Groups.{beats_in_group, beats_without_med, comes_first, champion_of, better_of}
use Rattle.decision_groups.specs.Groups.{some_members, NumberedGroup, AreNumbered, group_at, AreGroupsOf}
use Rattle.decision_groups.proofs.OrderLaws.{from_order_total, from_order_exact}
use Rattle.decision_groups.proofs.Members.{Contains-head, Contains-first, nothing_in_none, map-contains}
use Rattle.decision_groups.proofs.Members.{map-contained, filter_map-contains, filter_map-contained}
use Rattle.decision_groups.proofs.Chosen.{is_earlier, sorted-filter, IsChosen, choice-chosen, champion-chosen}
use Rattle.decision_groups.proofs.Chosen.{champions-decide, beats_order, in_own_group, of_group}
use Rattle.decision_groups.proofs.Law.{beats_without_med_order, choice-of_none}

-- ---- one more group

best_made : (cs : List RankedSource) (o : Option RankedSource) → best_by comes_first (cs ++ cons_option o []) ≡ better_of (best_by comes_first cs) o
best_made cs None = fold-append (pick comes_first) None cs []
best_made cs (Some c) = fold-append (pick comes_first) None cs (c ∷ [])

pub best_more : (groups : List (List RankedSource)) (members : List RankedSource)
    → best_by comes_first (filter_map champion_of (groups ++ members ∷ []))
    ≡ better_of (best_by comes_first (filter_map champion_of groups)) (champion_of members)
best_more groups members = ap (best_by comes_first) (filter_map-append champion_of groups (members ∷ []))
    ∙ best_made (filter_map champion_of groups) (champion_of members)

-- ---- which groups there are

some_is : (xs ys : List RankedSource) → some_members xs ≡ Some ys → xs ≡ ys
some_is [] ys h = cc
some_is (x ∷ xs) ys h = cc

is_some_of : (xs : List RankedSource) (c : RankedSource) → Contains xs c → some_members xs ≡ Some xs
is_some_of [] c there = nothing_in_none c there
is_some_of (x ∷ xs) c there = refl

-- each group has the candidates of some neighbour AS
group_is : (es : List RankedSource) (groups : List NumberedGroup) (members : List RankedSource) → AreGroupsOf es groups → AreNumbered groups
    → Contains (values_of groups) members → (n : ℕ) × (neighbour_group n es ≡ members)
group_is es groups members are ordered there =
    let entry = map-contained (λ e. e.1) groups members there in
    let found : group_at groups entry.0.0 ≡ Some entry.0.1 =
    lookup-from_Contains (eq_by_cmp_equiv nat_cmp_total) entry.0.0 entry.0.1 groups (IsDistinct-from_sorted nat_cmp (keys_of groups) ordered) entry.1 in
    (entry.0.0, some_is (neighbour_group entry.0.0 es) entry.0.1 (sym (are.each entry.0.0) ∙ found) ∙ entry.2)

-- the candidates of each neighbour AS that there are have their group
group_there : (es : List RankedSource) (groups : List NumberedGroup) (d : RankedSource) → AreGroupsOf es groups → Contains es d
    → Contains (values_of groups) (neighbour_group d.1.neighbour es)
group_there es groups d are there =
    let n = d.1.neighbour in
    let found : group_at groups n ≡ Some (neighbour_group n es) = are.each n ∙ is_some_of (neighbour_group n es) d (in_own_group es n d there refl) in
    map-contains (λ e. e.1) groups (n, neighbour_group n es) (Contains-from_lookup (tells_apart exact_unsigned) n (neighbour_group n es) groups found)

-- ---- their champions

champion_is_chosen : (es : List RankedSource) (n : ℕ) (c : RankedSource) → IsInOrder es → champion_of (neighbour_group n es) ≡ Some c
    → IsChosen from_order (neighbour_group n es) c
champion_is_chosen es n c s is =
    champion-chosen from_order_total n (neighbour_group n es) c (sorted-filter from_order (λ d. d.1.neighbour == n) es s) (of_group es n) is

record HasHead (es : List RankedSource) (groups : List NumberedGroup) (d : RankedSource) : Type 0 where
  pub head : RankedSource
  pub there : Contains (filter_map champion_of (values_of groups)) head
  pub is_chosen : IsChosen from_order (neighbour_group d.1.neighbour es) head

head_cases : (es : List RankedSource) (groups : List NumberedGroup) (d : RankedSource) → AreGroupsOf es groups → Contains es d
    → (o : Option RankedSource) → champion_of (neighbour_group d.1.neighbour es) ≡ o → HasHead es groups d
head_cases es groups d are there None is =
    let none = best_by-none (on beats_in_group) (on_order beats_in_group beats_order) (neighbour_group d.1.neighbour es) is in
    nothing_in_none d (subst (λ cs. Contains cs d) none (in_own_group es d.1.neighbour d there refl))
head_cases es groups d are there (Some e) is = record {
  head = e;
  there = filter_map-contains champion_of (values_of groups) (neighbour_group d.1.neighbour es) e (group_there es groups d are there) is;
  is_chosen = champion_is_chosen es d.1.neighbour e are.in_order is;
}

has_head : (es : List RankedSource) (groups : List NumberedGroup) (d : RankedSource) → AreGroupsOf es groups → Contains es d → HasHead es groups d
has_head es groups d are there = head_cases es groups d are there (champion_of (neighbour_group d.1.neighbour es)) refl

comes_first_order : IsStrictWeakOrder comes_first
comes_first_order = IsStrictWeakOrder-in_turn (on beats_without_med) (is_earlier from_order)
    (on_order beats_without_med beats_without_med_order) (ranks_by from_order_total (λ (c : RankedSource). c.0))

-- ---- the best of them

pub best-some : (es : List RankedSource) (groups : List NumberedGroup) (w : RankedSource) → AreGroupsOf es groups → AreNumbered groups
    → best_by comes_first (filter_map champion_of (values_of groups)) ≡ Some w → choice es ≡ Some w.0
best-some es groups w are ordered h =
    let heads = filter_map champion_of (values_of groups) in
    let is : first (keep comes_first heads) ≡ Some w = first-keep comes_first comes_first_order heads ∙ h in
    let in_kept = Contains-first (keep comes_first heads) w is in
    let made = filter_map-contained champion_of (values_of groups) w (Contains-keep comes_first heads w in_kept) in
    let group = group_is es groups made.0 are ordered made.1 in
    let a = champion_is_chosen es group.0 w are.in_order (ap champion_of group.1 ∙ made.2) in
    let own : IsChosen from_order (neighbour_group w.1.neighbour es) w =
    subst (λ n. IsChosen from_order (neighbour_group n es) w) (sym (of_group es group.0 w a.there)) a in
    choice-chosen from_order_total from_order_exact es w are.in_order
    (champions-decide from_order_total es w own
    (λ d there. let e = has_head es groups d are there in
    record { head = e.head; is_chosen = e.is_chosen; not_before = keep-unbeaten comes_first heads w e.head in_kept e.there }))

pub empty-best : (es : List RankedSource) (groups : List NumberedGroup) → AreGroupsOf es groups
    → best_by comes_first (filter_map champion_of (values_of groups)) ≡ None → es ≡ []
empty-best [] groups are h = refl
empty-best (d ∷ ds) groups are h =
    let e = has_head (d ∷ ds) groups d are (Contains-head d ds) in
    let none = best_by-none comes_first comes_first_order (filter_map champion_of (values_of groups)) h in
    nothing_in_none e.head (subst (λ cs. Contains cs e.head) none e.there)

pub best-none : (es : List RankedSource) (groups : List NumberedGroup) → AreGroupsOf es groups
    → best_by comes_first (filter_map champion_of (values_of groups)) ≡ None → choice es ≡ None
best-none es groups are h = choice-of_none es (empty-best es groups are h)

pub best-chosen : (es : List RankedSource) (groups : List NumberedGroup) (o : Option RankedSource) → AreGroupsOf es groups → AreNumbered groups
    → best_by comes_first (filter_map champion_of (values_of groups)) ≡ o → choice es ≡ option_map (λ c. c.0) o
best-chosen es groups (Some w) are ordered h = best-some es groups w are ordered h
best-chosen es groups None are ordered h = best-none es groups are h

pub empty_exactly : (es : List RankedSource) (answer : Option From) → answer ≡ choice es → (IsNone answer → es ≡ []) × (es ≡ [] → IsNone answer)
empty_exactly es None is = ((λ _. choice-none es (sym is)), (λ _. refl))
empty_exactly es (Some from) is = ((λ h. cc), (λ h. let no : Some from ≡ None = is ∙ choice-of_none es h in cc))
