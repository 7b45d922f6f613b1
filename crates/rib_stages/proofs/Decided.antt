-- The chosen route of kept ranks.
use Rattle.std.proofs.Common.{◌≡◌, Bool, true, false, cond, Option, Some, None, refl, sym, ap, ◌∙◌}
use Rattle.std.specs.Prelude.{option_and_then, is_some}
use Rattle.std.specs.Option.{option_map}
use Rattle.bgp_types.specs.Prefixes.{PrefixValue}
use Rattle.bgp_types.specs.declared.attrs.Route.{Route}
use Rattle.bgp_types.specs.declared.rank.From.{From}
use Rattle.bgp_types.specs.declared.rank.From.TheVariants.{Own, Peering, Router}
use Rattle.decision_core.specs.Choice.{choice}
use Rattle.decision_groups.specs.Order.{IsInOrder}
use Rattle.decision_groups.proofs.Sources.{choice-sources}
use Rattle.route_policy.specs.Candidates.{own_route}
use Rattle.route_policy.specs.declared.best.Best.{Best}
use Rattle.session_value.specs.Sets.{Prefixes, has}
use Rattle.rib_stages.specs.Values.{RibValue}
use Rattle.rib_stages.specs.Choosing.{has_network, candidates_of, rib_choice, route_from}
use Rattle.rib_stages.specs.Ranks.{RankSets, ranks_at, route_at, IsRib}
use Rattle.rib_stages.proofs.Candidates.{IsShort, from_of, best_from_there, choice_named, ranks_same_lists}
use Rattle.rib_stages.proofs.Kept.{set_has}

module _ (rib : RibValue) (sets : RankSets) (networks : Prefixes) (own : Route) (kept : IsRib rib sets networks own) where
  short : IsShort rib
  short = record { entries = kept.entries; tellings = kept.tellings }

  -- ---- the route to an own network

  pub network_is : (prefix : PrefixValue) → has networks prefix ≡ has_network rib.config prefix
  network_is prefix = ap (λ (s : Prefixes). has s prefix) kept.networks ∙ set_has rib.config.networks prefix

  -- another network has none
  pub no_route : (from : From) (prefix : PrefixValue) → from ≡ Own → has_network rib.config prefix ≡ false → None ≡ route_from rib from prefix
  no_route from prefix is gone = sym (ap (λ (f : From). route_from rib f prefix) is ∙ ap (λ (b : Bool). cond b (Some own_route) None) gone)

  -- the route from any other source, or to a network that is there
  pub route_is : (from : From) (prefix : PrefixValue) → (from ≡ Own → has_network rib.config prefix ≡ true)
      → route_at own rib.entries rib.tellings from prefix ≡ route_from rib from prefix
  route_is Own prefix there = ap Some kept.own ∙ sym (ap (λ (b : Bool). cond b (Some own_route) None) (there refl))
  route_is (Peering p) prefix there = refl
  route_is (Router q) prefix there = refl

  module _ (prefix : PrefixValue) (ordered : IsInOrder (ranks_at sets prefix)) where
    pub chosen_is : rib_choice rib prefix ≡ option_and_then (best_from_there rib prefix) (choice (ranks_at sets prefix))
    chosen_is = choice_named rib prefix short (ranks_at sets prefix) ordered (λ from. kept.ranks prefix from)

    -- no rank is chosen: there is no candidate
    pub chosen_none : (o : Option From) → o ≡ choice (ranks_at sets prefix) → o ≡ None → rib_choice rib prefix ≡ None
    chosen_none o is none = chosen_is ∙ ap (option_and_then (best_from_there rib prefix)) (sym is ∙ none)

    source_chosen : choice (ranks_at sets prefix) ≡ option_map from_of (rib_choice rib prefix)
    unfolding rib_choice
    source_chosen = ap choice (ranks_same_lists rib prefix short (ranks_at sets prefix) ordered (λ from. kept.ranks prefix from))
        ∙ choice-sources from_of (candidates_of rib prefix)

    not_none : (from : From) (o : Option Best) → Some from ≡ option_map from_of o → is_some o ≡ true
    not_none from None e = absurd cc
    not_none from (Some best) e = refl

    some_mapped : {A B : Type 0} (f : A → B) (o : Option A) → is_some (option_map f o) ≡ true → is_some o ≡ true
    some_mapped f None e = e
    some_mapped f (Some x) e = refl

    -- where a rank is chosen, the route of its source is there
    route_there : (from : From) → choice (ranks_at sets prefix) ≡ Some from → is_some (route_from rib from prefix) ≡ true
    route_there from is =
        let some : is_some (rib_choice rib prefix) ≡ true = not_none from (rib_choice rib prefix) (sym is ∙ source_chosen) in
        let there : is_some (best_from_there rib prefix from) ≡ true =
        ap is_some (sym (chosen_is ∙ ap (option_and_then (best_from_there rib prefix)) is)) ∙ some in
        some_mapped (λ (route : Route). record { from = from; route = route }) (route_from rib from prefix) there

    is_network : (b : Bool) → is_some (cond b (Some own_route) None) ≡ true → b ≡ true
    is_network true e = refl
    is_network false e = e

    route_same : (from : From) → is_some (route_from rib from prefix) ≡ true → route_from rib from prefix ≡ route_at own rib.entries rib.tellings from prefix
    route_same from there =
        sym (route_is from prefix (λ is. is_network (has_network rib.config prefix) (ap (λ (f : From). is_some (route_from rib f prefix)) (sym is) ∙ there)))

    -- the route of the chosen source, and it is the chosen one
    pub route_is_there : (from : From) → choice (ranks_at sets prefix) ≡ Some from → is_some (route_at own rib.entries rib.tellings from prefix) ≡ true
    route_is_there from is = let there = route_there from is in ap is_some (sym (route_same from there)) ∙ there

    pub chosen_some : (from : From) (route : Route) → choice (ranks_at sets prefix) ≡ Some from
        → route_at own rib.entries rib.tellings from prefix ≡ Some route → rib_choice rib prefix ≡ Some (record { from = from; route = route })
    chosen_some from route is here =
        chosen_is
        ∙ (ap (option_and_then (best_from_there rib prefix)) is
        ∙ ap (option_map (λ (r : Route). record { from = from; route = r })) (route_same from (route_there from is) ∙ here))

-- what is there isn't absent
pub not_absent : {A : Type 0} (o : Option A) → o ≡ None → is_some o ≡ true → ⊥
not_absent None e t = cc
not_absent (Some x) e t = cc
