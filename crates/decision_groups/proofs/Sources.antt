-- The choice among candidates is the choice among their sources.
use Rattle.std.proofs.Common.{◌≡◌, Bool, true, false, not, cond, ◌||◌, List, [], ◌∷◌, map, Option, Some, None, refl, ap, ◌∙◌, subst}
use Rattle.std.specs.Prelude.{Contains, option_map, option_and_then, find, filter}
use Rattle.std.specs.List.{list_any}
use Rattle.std.specs.Map.{keys_of}
use Rattle.std.specs.BTreeMap.{is_at}
use Rattle.std.specs.Ordering.{is_eq, ordering_reverse}
use Rattle.std.specs.declared.cmp.Ordering.TheVariants.{Less}
use Rattle.std.proofs.lemmas.Cmp.{tied_itself}
use Rattle.std.proofs.lemmas.Map.Keys.{sorted_head, sorted_tail}
use Rattle.bgp_types.specs.declared.rank.From.{From}
use Rattle.bgp_types.specs.declared.rank.Rank.{Rank}
use Rattle.decision_core.specs.Choice.{Rule, is_own, has_higher_preference, has_shorter_path, has_lower_origin, has_lower_med, is_external}
use Rattle.decision_core.specs.Choice.{has_lower_cost, has_lower_identifier, has_lower_address, keep, left_of, first, choice}
use Rattle.decision_core.proofs.NineRules.{on}
use Rattle.decision_core.proofs.AnyOrder.{Contains-keep}
use Rattle.decision_groups.specs.Order.{from_order, IsInOrder}
use Rattle.decision_groups.specs.Sources.{ranked_sources, candidate_from}
use Rattle.decision_groups.proofs.OrderLaws.{from_order_total}
use Rattle.decision_groups.proofs.Members.{Contains-cases, Contains-first, nothing_in_none}

-- ---- renamed candidates

any-map : {X Y : Type 0} (g : X → Y) (p : Y → Bool) (xs : List X) → list_any p (map g xs) ≡ list_any (λ x. p (g x)) xs
any-map g p [] = refl
any-map g p (x ∷ xs) = ap (λ b. p (g x) || b) (any-map g p xs)

map-cond : {X Y : Type 0} (g : X → Y) (b : Bool) (x : X) (xs : List X) → cond b (g x ∷ map g xs) (map g xs) ≡ map g (cond b (x ∷ xs) xs)
map-cond g true x xs = refl
map-cond g false x xs = refl

filter-map : {X Y : Type 0} (g : X → Y) (p : Y → Bool) (q : X → Bool) → ((x : X) → p (g x) ≡ q x) → (xs : List X) → filter p (map g xs) ≡ map g (filter q xs)
filter-map g p q same [] = refl
filter-map g p q same (x ∷ xs) =
    ap (λ ys. cond (p (g x)) (g x ∷ ys) ys) (filter-map g p q same xs)
    ∙ (ap (λ b. cond b (g x ∷ map g (filter q xs)) (map g (filter q xs))) (same x)
    ∙ map-cond g (q x) x (filter q xs))

module _ {K : Type 0} (source : K → From) where
  by_source : K × Rank → From × Rank
  by_source c = (source c.0, c.1)

  keep-sources : (rule : Rule) (cs : List (K × Rank)) → keep (on rule) (ranked_sources source cs) ≡ ranked_sources source (keep (on rule) cs)
  unfolding keep
  keep-sources rule cs =
      filter-map (λ (c : K × Rank). (source c.0, c.1))
      (λ x. not (list_any (λ y. on rule y x) (ranked_sources source cs))) (λ x. not (list_any (λ y. on rule y x) cs))
      (λ x. ap not (any-map (λ (c : K × Rank). (source c.0, c.1)) (λ y. on rule y (source x.0, x.1)) cs)) cs

  -- one rule more
  more : (rule : Rule) (xs : List (From × Rank)) (cs : List (K × Rank)) → xs ≡ ranked_sources source cs
      → keep (on rule) xs ≡ ranked_sources source (keep (on rule) cs)
  more rule xs cs e = ap (keep (on rule)) e ∙ keep-sources rule cs

  left-sources : (cs : List (K × Rank)) → left_of (ranked_sources source cs) ≡ ranked_sources source (left_of cs)
  unfolding left_of
  left-sources cs =
      more has_lower_address _ _ (more has_lower_identifier _ _ (more has_lower_cost _ _ (more is_external _ _ (more has_lower_med _ _
      (more has_lower_origin _ _ (more has_shorter_path _ _ (more has_higher_preference _ _ (more is_own _ cs refl))))))))

  first-sources : (cs : List (K × Rank)) → option_map (λ c. c.0) (first (ranked_sources source cs)) ≡ option_map source (option_map (λ c. c.0) (first cs))
  first-sources [] = refl
  first-sources (c ∷ cs) = refl

  pub choice-sources : (cs : List (K × Rank)) → choice (ranked_sources source cs) ≡ option_map source (choice cs)
  unfolding choice
  choice-sources cs = ap (λ xs. option_map (λ c. c.0) (first xs)) (left-sources cs) ∙ first-sources (left_of cs)

  -- ---- the candidate that comes from a source

  of_source : (P : From → Type 0) (cs : List (K × Rank)) (e : K × Rank) → Rattle.std.specs.List.AllByRecursion P (keys_of (ranked_sources source cs))
      → Contains cs e → P (source e.0)
  of_source P [] e h there = nothing_in_none e there
  of_source P (c ∷ cs) e h there =
      Contains-cases c e cs there (λ same. subst (λ (d : K × Rank). P (source d.0)) same h.0) (λ further. of_source P cs e h.1 further)

  found-first : (c e : K × Rank) (cs : List (K × Rank)) (b : Bool) → is_at (from_order (source e.0)) (source c.0) ≡ b → c ≡ e
      → cond b (Some c) (find (λ d. is_at (from_order (source e.0)) (source d.0)) cs) ≡ Some e
  found-first c e cs true is same = ap Some same
  found-first c e cs false is same =
      let itself : is_at (from_order (source e.0)) (source c.0) ≡ true =
      ap (λ (d : K × Rank). is_at (from_order (source e.0)) (source d.0)) same ∙ ap is_eq (tied_itself from_order_total (source e.0)) in
      cc

  found-later : (c e : K × Rank) (found : Option (K × Rank)) → from_order (source c.0) (source e.0) ≡ Less → found ≡ Some e
      → cond (is_at (from_order (source e.0)) (source c.0)) (Some c) found ≡ Some e
  found-later c e found less is =
      let other : is_at (from_order (source e.0)) (source c.0) ≡ false =
      ap is_eq (from_order_total.antisymm (source e.0) (source c.0) ∙ ap ordering_reverse less) in
      ap (λ b. cond b (Some c) found) other ∙ is

  found : (cs : List (K × Rank)) (e : K × Rank) → IsInOrder (ranked_sources source cs) → Contains cs e
      → find (λ c. is_at (from_order (source e.0)) (source c.0)) cs ≡ Some e
  found [] e s there = nothing_in_none e there
  found (c ∷ cs) e s there =
      Contains-cases c e cs there
      (λ same. found-first c e cs _ refl same)
      (λ further. found-later c e _
      (of_source (λ q. from_order (source c.0) q ≡ Less) cs e (sorted_head from_order (source c.0) (keys_of (ranked_sources source cs)) s) further)
      (found cs e (sorted_tail from_order (source c.0) (keys_of (ranked_sources source cs)) s) further))

  by_first : (cs : List (K × Rank)) → IsInOrder (ranked_sources source cs) → (o : Option (K × Rank)) → ((e : K × Rank) → o ≡ Some e → Contains cs e)
      → option_and_then (candidate_from source cs) (option_map source (option_map (λ c. c.0) o)) ≡ option_map (λ c. c.0) o
  by_first cs s None there = refl
  by_first cs s (Some e) there = ap (option_map (λ c. c.0)) (found cs e s (there e refl))

  left-there : (cs : List (K × Rank)) (e : K × Rank) → Contains (left_of cs) e → Contains cs e
  unfolding left_of
  left-there cs e there =
      Contains-keep (on is_own) cs e (Contains-keep (on has_higher_preference) _ e
      (Contains-keep (on has_shorter_path) _ e (Contains-keep (on has_lower_origin) _ e (Contains-keep (on has_lower_med) _ e
      (Contains-keep (on is_external) _ e
      (Contains-keep (on has_lower_cost) _ e (Contains-keep (on has_lower_identifier) _ e (Contains-keep (on has_lower_address) _ e there))))))))

  pub candidate-chosen : (cs : List (K × Rank)) → IsInOrder (ranked_sources source cs)
      → option_and_then (candidate_from source cs) (choice (ranked_sources source cs)) ≡ choice cs
  unfolding choice
  candidate-chosen cs s =
      ap (option_and_then (candidate_from source cs)) (choice-sources cs)
      ∙ by_first cs s (first (left_of cs)) (λ e is. left-there cs e (Contains-first (left_of cs) e is))
