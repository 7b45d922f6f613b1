-- What routers have by themselves in a settled world is among the routes that the laboratory's networks and remotes can bring in.
use Rattle.std.proofs.Common.{◌≡◌, ◌≢◌, ℕ, ◌<◌, Bool, true, false, cond, List, [], map, Option, Some, None, refl, sym, ap, ◌∙◌, subst, arith, ◌⊎◌, inl, inr}
use Rattle.std.specs.Prelude.{slice_get, IfSome, option_map, option_and_then, unwrap_or}
use Rattle.std.specs.FinMap as finmap
use Rattle.std.specs.List.{AllByRecursion, filter_map, flat_map, enumerate_from, list_any}
use Rattle.std.proofs.lemmas.Bool.{cases_eq}
use Rattle.bgp_types.specs.declared.attrs.Attrs.{Attrs}
use Rattle.bgp_types.specs.declared.attrs.Route.{Route}
use Rattle.bgp_types.specs.Prefixes.{PrefixValue, same_prefix}
use Rattle.bgp_types.proofs.OnceLaws.{is_same}
use Rattle.bgp_story.proofs.Shapes.{allowed_of}
use Rattle.route_policy.specs.declared.rule.Rule.{Rule}
use Rattle.route_policy.specs.Candidates.{SessionRoute, Candidate, own_candidates, own_route, session_candidate, imported}
use Rattle.route_policy.specs.Policies.{policy}
use Rattle.route_policy.specs.Rules.{holds_as}
use Rattle.session_value.specs.declared.config.SessionConfig.{SessionConfig}
use Rattle.session_value.specs.Sessions.{peering_of, state}
use Rattle.graft_model.specs.Claims.{sessions_at, session_routes}
use Rattle.graft_model.specs.Decisions.{session_route}
use Rattle.graft_model.specs.OperatorRows.{placement}
use Rattle.graft_model.specs.Parts.{Place, World}
use Rattle.graft_model.specs.Setups.{Setup, RouterSetup, PeeringSetup, IsSetup, routers_in, peerings_in}
use Rattle.graft_model.specs.Setups.{router_numbers, peering_numbers, has_network, rules_for}
use Rattle.graft_laws.specs.Keeps.{Reached}
use Rattle.graft_laws.proofs.First.{some_peering}
use Rattle.graft_laws.proofs.Lists.{all_front, all_back, all_join}
use Rattle.even_meshes.specs.Meshes as meshes
use Rattle.even_meshes.specs.Worlds.{prefix_mesh}
use Rattle.one_answer.specs.Settled.{said_in_all, HasNoTimer, IsSettled}
use Rattle.one_answer.proofs.Held.{Held, held}
use Rattle.one_answer.proofs.Joined.{all_in}
use Rattle.even_inputs.specs.Announced.{updates_of, announced_by}
use Rattle.even_inputs.specs.Evenness.{Med, med_of, let_in, announced_route, own_meds, meds_from, meds_by, meds_in, first_med, is_even}
use Rattle.even_inputs.proofs.Lists.{all_flat, flat_all, all_mapped, all_given, given_all, slice_all, at_number, at_below, some_has}
use Rattle.even_inputs.proofs.Meds as meds
use Rattle.even_inputs.proofs.Announcing.{heard_has}

module _ (setup : Setup) (even : is_even setup ≡ true) where
  -- a route's MED is the first one's of its prefix and neighbour AS
  abbrev IsFirst : Med → Type 0
  IsFirst m = meds.IsFirst (meds_in setup) m

  firsts : AllByRecursion IsFirst (meds_in setup)
  firsts = meds.each_first (meds_in setup) even

  own_firsts : AllByRecursion (λ (router : RouterSetup). AllByRecursion IsFirst (own_meds setup router)) setup.routers
  own_firsts = all_flat IsFirst (own_meds setup) setup.routers (all_front IsFirst (flat_map (own_meds setup) setup.routers) _ firsts)

  -- an announced route has the first MED, as it is and as each router lets it in
  abbrev AreFirst : PeeringSetup → PrefixValue × Attrs → Type 0
  AreFirst peering announced = AllByRecursion IsFirst (meds_from setup peering.config announced)

  announced_firsts : (p : ℕ) (peering : PeeringSetup) → slice_get setup.peerings p ≡ Some peering
      → AllByRecursion (AreFirst peering) (flat_map announced_by (updates_of setup p peering))
  announced_firsts p peering is = all_flat IsFirst (meds_from setup peering.config) (flat_map announced_by (updates_of setup p peering))
      (at_number (λ (x : ℕ × PeeringSetup). AllByRecursion IsFirst (meds_by setup x)) setup.peerings p peering
      (all_flat IsFirst (meds_by setup) (enumerate_from 0 setup.peerings) (all_back IsFirst (flat_map (own_meds setup) setup.routers) _ firsts)) is)

  module _ (prefix : PrefixValue) where
    abbrev IsEvenly : Candidate → Type 0
    IsEvenly c = c.1.med ≡ first_med (meds_in setup) prefix c.1.neighbour

    -- ---- own networks

    own_network : (r : ℕ) → has_network setup r prefix ≡ true → IsFirst (med_of setup.home_as prefix own_route)
    own_network r has = by_router (slice_get setup.routers r) refl has
      where
        by_router : (o : Option RouterSetup) → slice_get setup.routers r ≡ o
            → list_any (same_prefix prefix) (unwrap_or (option_map (λ (router : RouterSetup). router.networks) o) []) ≡ true
            → IsFirst (med_of setup.home_as prefix own_route)
        by_router None e has = absurd cc
        by_router (Some router) e has = some_has (same_prefix prefix) (λ x. IsFirst (med_of setup.home_as x own_route)) _ router.networks has
            (all_mapped IsFirst (λ x. med_of setup.home_as x own_route) router.networks
            (slice_all (λ (x : RouterSetup). AllByRecursion IsFirst (own_meds setup x)) setup.routers r router own_firsts e))
            (λ x same first. subst (λ y. IsFirst (med_of setup.home_as y own_route)) (sym (is_same prefix x same)) first)

    own_even : (r : ℕ) (b : Bool) → has_network setup r prefix ≡ b → AllByRecursion IsEvenly (own_candidates setup.home_as b)
    own_even r true has = (own_network r has, tt)
    own_even r false has = tt

    -- ---- what sessions bring in

    -- a candidate has its route's neighbour AS and MED
    of_route : (session : SessionRoute) (o : Option Route) → IfSome (option_map (med_of setup.home_as prefix) o) IsFirst
        → IfSome (session_candidate setup.home_as session o) IsEvenly
    of_route session None h = tt
    of_route session (Some route) h = h

    -- what an import policy makes of an announced route whose MEDs are the first ones
    module _ (peering : PeeringSetup) (attrs : Attrs) (are : AreFirst peering (prefix, attrs)) (r : ℕ) (l : r < routers_in setup) where
      abbrev IsFirstIn : Option Route → Type 0
      IsFirstIn o = IfSome (option_map (med_of setup.home_as prefix) o) IsFirst

      lets_in_first : IsFirstIn (let_in setup peering.config (prefix, attrs) r)
      lets_in_first = at_below (λ q. IfSome (option_map (med_of setup.home_as prefix) (let_in setup peering.config (prefix, attrs) q)) IsFirst)
          (routers_in setup) r
          (all_given IsFirst (λ q. option_map (med_of setup.home_as prefix) (let_in setup peering.config (prefix, attrs) q)) (router_numbers setup) are.1) l

      of_rules : (o : Option (List Rule)) → rules_for setup r peering.config.import ≡ o
          → IsFirstIn (policy (unwrap_or o []) prefix peering.config.remote_as (announced_route attrs))
      of_rules None e = are.0
      of_rules (Some rules) e =
          subst (λ (o : Option (List Rule)). IsFirstIn (option_and_then (λ rules. policy rules prefix peering.config.remote_as (announced_route attrs)) o))
          e lets_in_first

      unless_looped : (b : Bool) (o : Option Route) → IsFirstIn o → IsFirstIn (cond b None o)
      unless_looped true o h = tt
      unless_looped false o h = h

      imported_first : (route : SessionRoute) → route.remote_as ≡ peering.config.remote_as → route.import_rules ≡ rules_for setup r peering.config.import
          → IfSome (option_map (med_of setup.home_as prefix) (imported setup.home_as prefix route (Some attrs))) IsFirst
      imported_first route as_number rules = unless_looped (holds_as attrs.path setup.home_as) _
          (subst (λ (n : ℕ). IsFirstIn (policy (unwrap_or route.import_rules []) prefix n (announced_route attrs))) (sym as_number)
          (subst (λ (o : Option (List Rule)). IsFirstIn (policy (unwrap_or o []) prefix peering.config.remote_as (announced_route attrs))) (sym rules)
          (of_rules (rules_for setup r peering.config.import) refl)))

    module _ (w : World) (ok : IsSetup setup) (timer : HasNoTimer setup) (reached : Reached setup w) (settled : IsSettled setup w) where
      module _ (p : ℕ) (peering : PeeringSetup) (below : p < peerings_in setup) (is : slice_get setup.peerings p ≡ Some peering)
          (r : ℕ) (l : r < routers_in setup) where
        has : Held setup w p peering
        has = held setup ok timer w reached settled p peering below is

        abbrev route : SessionRoute
        route = session_route setup r has.session prefix

        brought_even : IfSome (meshes.session_brings (prefix_mesh setup w prefix) route) IsEvenly
        brought_even = of_route route (imported setup.home_as prefix route route.heard) (by_heard (finmap.get has.session.adj_rib_in prefix) refl)
          where
            by_heard : (o : Option Attrs) → finmap.get has.session.adj_rib_in prefix ≡ o
                → IfSome (option_map (med_of setup.home_as prefix) (imported setup.home_as prefix route o)) IsFirst
            by_heard None e = tt
            by_heard (Some attrs) e = imported_first peering attrs
                (heard_has peering (AreFirst peering) (said_in_all setup p peering) (announced_firsts p peering is)
                has.session.story (state has.session) has.reads.all.rest
                (allowed_of (peering_of peering.config) has.session.story (state has.session) has.reads.legal) has.reads.all.is
                prefix attrs (ap (λ t. finmap.get t prefix) (sym has.adj_rib_in) ∙ e)) r l route
                (ap (λ (c : SessionConfig). c.remote_as) has.config) (ap (λ (c : SessionConfig). rules_for setup r c.import) has.config)

        abbrev routes_at : Place → List SessionRoute
        routes_at place = map (λ session. session_route setup r session prefix) (sessions_at place)

        -- the session is there, or none is
        place_even : AllByRecursion (λ s. IfSome (meshes.session_brings (prefix_mesh setup w prefix) s) IsEvenly) (routes_at ((w.router r).places p))
        place_even = by_place (cases_eq r (placement setup w.operator p)) where
          by_place : (r ≡ placement setup w.operator p) ⊎ (r ≢ placement setup w.operator p)
              → AllByRecursion (λ s. IfSome (meshes.session_brings (prefix_mesh setup w prefix) s) IsEvenly) (routes_at ((w.router r).places p))
          by_place (inl e) =
              subst (λ (place : Place). AllByRecursion (λ s. IfSome (meshes.session_brings (prefix_mesh setup w prefix) s) IsEvenly) (routes_at place))
              (sym (ap (λ (q : ℕ). (w.router q).places p) e ∙ has.here)) (brought_even, tt)
          by_place (inr ne) =
              subst (λ (place : Place). AllByRecursion (λ s. IfSome (meshes.session_brings (prefix_mesh setup w prefix) s) IsEvenly) (routes_at place))
              (sym (has.elsewhere r l ne)) tt

      at_each : (r : ℕ) → r < routers_in setup → (p : ℕ) → p < peerings_in setup
          → AllByRecursion (λ s. IfSome (meshes.session_brings (prefix_mesh setup w prefix) s) IsEvenly)
          (map (λ session. session_route setup r session prefix) (sessions_at ((w.router r).places p)))
      at_each r l p m = let some = some_peering setup p m in place_even p some.0 m some.1 r l

      sessions_even : (r : ℕ) → r < routers_in setup
          → AllByRecursion IsEvenly (filter_map (meshes.session_brings (prefix_mesh setup w prefix)) (session_routes setup w r prefix))
      sessions_even r l = given_all IsEvenly (meshes.session_brings (prefix_mesh setup w prefix)) (session_routes setup w r prefix)
          (flat_all _ _ (peering_numbers setup) (all_in _ 0 (peerings_in setup) (λ p m. at_each r l p (omega (arith, m)))))

      pub base_even : (r : ℕ) → r < routers_in setup → AllByRecursion IsEvenly (meshes.candidates_alone (prefix_mesh setup w prefix) r)
      base_even r l = all_join IsEvenly (own_candidates setup.home_as (has_network setup r prefix)) _
          (own_even r (has_network setup r prefix) refl) (sessions_even r l)

      pub even_then : meshes.IsEven (prefix_mesh setup w prefix)
      even_then = record {
        med = λ neighbour. first_med (meds_in setup) prefix neighbour;
        each = all_in _ 0 (routers_in setup) (λ r l. base_even r (omega (arith, l)));
      }
