-- The choice over all candidates is the choice, without MED, over the champions.
use Rattle.std.proofs.Common.{◌≡◌, ℕ, ◌==◌, true, false, List, [], ◌∷◌, Option, Some, None, refl, sym, ap, ◌∙◌, subst}
use Rattle.std.specs.Prelude.{Contains, option_map}
use Rattle.std.specs.Option.{option_map_or}
use Rattle.std.specs.BTreeMap.{is_at}
use Rattle.std.specs.Ordering.{is_eq}
use Rattle.std.specs.Cmp.{IsStrictWeakOrder}
use Rattle.std.specs.declared.cmp.Ordering.{Ordering}
use Rattle.std.specs.declared.cmp.Ordering.TheVariants.{Less, Equal, Greater}
use Rattle.std.proofs.lemmas.Cmp.{tied_itself}
use Rattle.std.proofs.lemmas.List.Elements.{filter_passes, All-contains}
use Rattle.bgp_types.specs.declared.rank.From.{From}
use Rattle.bgp_types.specs.declared.rank.Rank.{Rank}
use Rattle.decision_core.specs.Choice.{is_own, has_higher_preference, has_shorter_path, has_lower_origin, is_external}
use Rattle.decision_core.specs.Choice.{has_lower_cost, has_lower_identifier, has_lower_address, keep, left_of, first, choice}
use Rattle.decision_core.specs.Search.{leads, is_nearer}
use Rattle.decision_core.proofs.Filters.{IsStrictWeakOrder-in_turn, keep-none}
use Rattle.decision_core.proofs.NineRules.{on, on_order, keep_on, keep_four, leads_order, is_nearer_order, own_order, preference_order}
use Rattle.decision_core.proofs.NineRules.{path_order, origin_order, external_order, cost_order, identifier_order, address_order}
use Rattle.decision_core.proofs.AnyOrder.{Contains-filter, Contains-keep}
use Rattle.decision_groups.specs.Order.{RankedSource, from_order, IsInOrder}
use Rattle.decision_groups.specs.Champions.{neighbour_group, is_champion, champions, choice_without_med}
use Rattle.decision_groups.specs.Groups.{beats_without_med}
use Rattle.decision_groups.proofs.OrderLaws.{from_order_total, from_order_exact}
use Rattle.decision_groups.proofs.Members.{Contains-head, Contains-first, nothing_in_none, filter-contains}
use Rattle.decision_groups.proofs.Chosen.{sorted-filter, first-unbeaten, IsChosen, chosen, left-none, choice-chosen}
use Rattle.decision_groups.proofs.Chosen.{champions-decide, in_own_group, out_of_group, of_group, same_name}

pub beats_without_med_order : IsStrictWeakOrder beats_without_med
beats_without_med_order = IsStrictWeakOrder-in_turn leads is_nearer leads_order is_nearer_order

-- the eight rules are one order
pub choice_without_med-in_one : {K : Type 0} (cs : List (K × Rank)) → choice_without_med cs ≡ option_map (λ c. c.0) (first (keep (on beats_without_med) cs))
unfolding choice_without_med
choice_without_med-in_one cs =
    ap (λ rest. option_map (λ c. c.0) (first rest))
    (ap (λ rest. keep (on has_lower_address) (keep (on has_lower_identifier) (keep (on has_lower_cost) (keep (on is_external) rest))))
    (keep_four is_own has_higher_preference has_shorter_path has_lower_origin own_order preference_order path_order origin_order cs)
    ∙ keep_four is_external has_lower_cost has_lower_identifier has_lower_address external_order cost_order identifier_order address_order (keep (on leads) cs)
    ∙ keep_on leads is_nearer leads_order is_nearer_order cs)

-- ---- champions

is_at-itself : (from : From) → is_at (from_order from) from ≡ true
is_at-itself from = ap is_eq (tied_itself from_order_total from)

equal_order : (a : Ordering) → is_eq a ≡ true → a ≡ Equal
equal_order Less h = cc
equal_order Equal h = refl
equal_order Greater h = cc

group_sorted : (n : ℕ) (cs : List RankedSource) → IsInOrder cs → IsInOrder (neighbour_group n cs)
group_sorted n cs s = sorted-filter from_order (λ c. c.1.neighbour == n) cs s

named_cases : (cs : List RankedSource) (c : RankedSource) → IsInOrder cs → Contains cs c → (o : Option RankedSource) → first (left_of cs) ≡ o
    → option_map_or (λ from. is_at (from_order from) c.0) (option_map (λ e. e.0) o) false ≡ true → IsChosen from_order cs c
named_cases cs c s there None is named = cc
named_cases cs c s there (Some e) is named =
    let a = chosen from_order_total cs e s is in
    let same : e ≡ c = same_name from_order_total cs e c s a.there there (from_order_exact e.0 c.0 (equal_order (from_order e.0 c.0) named)) in
    subst (IsChosen from_order cs) same a

-- what the choice of a list names is chosen of it
named : (cs : List RankedSource) (c : RankedSource) → IsInOrder cs → Contains cs c
    → option_map_or (λ from. is_at (from_order from) c.0) (choice cs) false ≡ true → IsChosen from_order cs c
unfolding choice
named cs c s there is = named_cases cs c s there (first (left_of cs)) refl is

names : (cs : List RankedSource) (c : RankedSource) → first (left_of cs) ≡ Some c → option_map_or (λ from. is_at (from_order from) c.0) (choice cs) false ≡ true
unfolding choice
names cs c is = ap (λ o. option_map_or (λ from. is_at (from_order from) c.0) (option_map (λ e. e.0) o) false) is ∙ is_at-itself c.0

champion_is_chosen : (cs : List RankedSource) (w : RankedSource) → IsInOrder cs → Contains (champions cs) w
    → IsChosen from_order (neighbour_group w.1.neighbour cs) w
champion_is_chosen cs w s there =
    let in_all = Contains-filter (is_champion cs) cs w there in
    let passes = All-contains (λ c. is_champion cs c ≡ true) (champions cs) w (filter_passes (is_champion cs) cs) there in
    named (neighbour_group w.1.neighbour cs) w (group_sorted w.1.neighbour cs s) (in_own_group cs w.1.neighbour w in_all refl) passes

-- a candidate's group has a champion
record HasChampion (cs : List RankedSource) (d : RankedSource) : Type 0 where
  pub head : RankedSource
  pub there : Contains (champions cs) head
  pub is_chosen : IsChosen from_order (neighbour_group d.1.neighbour cs) head

champion_cases : (cs : List RankedSource) (d : RankedSource) → IsInOrder cs → Contains cs d → (o : Option RankedSource)
    → first (left_of (neighbour_group d.1.neighbour cs)) ≡ o → HasChampion cs d
champion_cases cs d s there None is =
    nothing_in_none d (subst (λ es. Contains es d) (left-none (neighbour_group d.1.neighbour cs) is) (in_own_group cs d.1.neighbour d there refl))
champion_cases cs d s there (Some e) is =
    let a = chosen from_order_total (neighbour_group d.1.neighbour cs) e (group_sorted d.1.neighbour cs s) is in
    let of : e.1.neighbour ≡ d.1.neighbour = of_group cs d.1.neighbour e a.there in
    let test : is_champion cs e ≡ true = subst (λ n. option_map_or (λ from. is_at (from_order from) e.0) (choice (neighbour_group n cs)) false ≡ true)
    (sym of) (names (neighbour_group d.1.neighbour cs) e is) in
    record {
      head = e;
      there = filter-contains (is_champion cs) cs e (out_of_group cs d.1.neighbour e a.there) test;
      is_chosen = a;
    }

has_champion : (cs : List RankedSource) (d : RankedSource) → IsInOrder cs → Contains cs d → HasChampion cs d
has_champion cs d s there = champion_cases cs d s there (first (left_of (neighbour_group d.1.neighbour cs))) refl

-- ---- the law

no_champions : (cs : List RankedSource) → IsInOrder cs → champions cs ≡ [] → cs ≡ []
no_champions [] s none = refl
no_champions (d ∷ ds) s none =
    let e = has_champion (d ∷ ds) d s (Contains-head d ds) in
    nothing_in_none e.head (subst (λ es. Contains es e.head) none e.there)

first-none : {X : Type 0} (xs : List X) → first xs ≡ None → xs ≡ []
first-none [] h = refl
first-none (x ∷ xs) h = cc

pub choice-of_none : (cs : List RankedSource) → cs ≡ [] → choice cs ≡ None
unfolding choice left_of keep
choice-of_none cs h = rw h refl

law_cases : (cs : List RankedSource) → IsInOrder cs → (o : Option RankedSource) → first (keep (on beats_without_med) (champions cs)) ≡ o
    → choice cs ≡ option_map (λ c. c.0) o
law_cases cs s None is =
    choice-of_none cs (no_champions cs s (keep-none (on beats_without_med) (on beats_without_med)
    (on_order beats_without_med beats_without_med_order) (λ c d k. k) (champions cs) (first-none (keep (on beats_without_med) (champions cs)) is)))
law_cases cs s (Some w) is =
    let order = on_order beats_without_med beats_without_med_order in
    let there = Contains-keep (on beats_without_med) (champions cs) w (Contains-first (keep (on beats_without_med) (champions cs)) w is) in
    let sorted = sorted-filter from_order (is_champion cs) cs s in
    choice-chosen from_order_total from_order_exact cs w s
    (champions-decide from_order_total cs w (champion_is_chosen cs w s there)
    (λ d d_there. let e = has_champion cs d s d_there in
    record {
      head = e.head;
      is_chosen = e.is_chosen;
      not_before = first-unbeaten from_order_total (on beats_without_med) order (champions cs) w e.head sorted is e.there;
    }))

pub choice-by_champions : (cs : List RankedSource) → IsInOrder cs → choice cs ≡ choice_without_med (champions cs)
choice-by_champions cs s = law_cases cs s (first (keep (on beats_without_med) (champions cs))) refl ∙ sym (choice_without_med-in_one (champions cs))
