-- Where best routes come from in a network whose tables solve the decision equations.
use Rattle.std.proofs.Common.{◌≡◌, ◌==◌, ℕ, ◌<◌, ◌≤◌, Bool, true, false, List, [], ◌++◌, Option, Some, None, refl, sym, ap, ◌∙◌, subst, arith, inl, inr}
use Rattle.std.proofs.lemmas.Bool.{cases_lt}
use Rattle.std.proofs.lemmas.Bool.Decides.{nat_tests}
use Rattle.std.proofs.lemmas.List.{get_or_past}
use Rattle.std.proofs.lemmas.List.Elements.{All-nil, All-cons, All-append, All-contains, All-filter, All-map, All-weaker, filter_passes}
use Rattle.std.proofs.lemmas.List.FromFn.{length-map-range_with_len, get_or-map-range_with_len}
use Rattle.std.specs.Prelude.{All, IsSome, filter, is_some, length, not, option_map}
use Rattle.std.specs.FinMap.{empty, get, get-empty}
use Rattle.std.specs.List.{filter_map}
use Rattle.graft_edge.specs.declared.ids.PeeringId.{PeeringId}
use Rattle.graft_edge.specs.declared.ids.RouterId.{RouterId}
use Rattle.bgp_types.specs.Prefixes.{PrefixValue}
use Rattle.bgp_types.specs.Tables.{prefix_cmp}
use Rattle.bgp_types.specs.declared.attrs.Route.{Route}
use Rattle.bgp_types.specs.declared.rank.From.{From}
use Rattle.bgp_types.specs.declared.rank.From.TheVariants.{Own, Peering, Router}
use Rattle.forward_laws.proofs.Seen.{each_get}
use Rattle.route_policy.specs.declared.best.Best.{Best}
use Rattle.route_policy.specs.Candidates.{SessionRoute, RouterRoute, Candidate, imported, own_candidates, session_candidate, router_candidate, candidates}
use Rattle.route_policy.specs.Telling.{inside, tell_in}
use Rattle.forward_walk.specs.Tables.{ForwardMap, from_at}
use Rattle.forward_walk.specs.Solved.{IsExit}
use Rattle.graft_model.specs.Setups.{Setup, routers_in, router_numbers, identifier_of, cost_between, has_network}
use Rattle.graft_model.specs.Parts.{World}
use Rattle.graft_model.specs.Claims.{session_routes, router_routes, Solves}
use Rattle.forward_laws.specs.Forwards.{froms_of, forward_maps}
use Rattle.forward_laws.proofs.Lists.{all_given, numbers_below, number_there, none_behind, GivesNone, all_give_none, choice_has, choice_some}

-- ---- what is told of a best route

inside_exit : (from : From) (route : Route) → IsSome (inside from route) → IsExit (Some from)
inside_exit Own route some = tt
inside_exit (Peering p) route some = tt
inside_exit (Router q) route some = absurd cc

pub told_exit : (o : Option Best) → IsSome (tell_in o) → IsExit (option_map (λ b. b.from) o)
told_exit None some = absurd cc
told_exit (Some best) some = inside_exit best.from best.route some

exit_inside : (from : From) (route : Route) → IsExit (Some from) → inside from route ≡ Some route
exit_inside Own route exit = refl
exit_inside (Peering p) route exit = refl
exit_inside (Router q) route exit = absurd exit

pub exit_told : (o : Option Best) → IsExit (option_map (λ b. b.from) o) → IsSome (tell_in o)
exit_told None exit = absurd exit
exit_told (Some best) exit = ap is_some (exit_inside best.from best.route exit)

no_route : (home_as : ℕ) (teller : RouterRoute) (told : Option Route) → router_candidate home_as teller told ≡ None → IsSome told → ⊥
no_route home_as teller None e some = cc
no_route home_as teller (Some route) e some = cc

-- ---- the maps

module _ (setup : Setup) (w : World) where
  -- the map of a router is that of its best routes
  pub from_best : (r : RouterId) (x : PrefixValue) → r.0 < routers_in setup
      → from_at (forward_maps setup w) r x ≡ option_map (λ b. b.from) (get (w.router r.0).best x)
  from_best r x lt =
      let froms : ℕ → ForwardMap = λ k. froms_of (w.router k).best in
      ap (λ (t : ForwardMap). get t x) (get_or-map-range_with_len froms 0 (routers_in setup) r.0 r.0 empty lt (omega arith))
      ∙ each_get (λ (b : Best). b.from) (w.router r.0).best x

  pub maps_length : length (forward_maps setup w) ≡ routers_in setup
  maps_length = length-map-range_with_len (λ (k : ℕ). froms_of (w.router k).best) 0 (routers_in setup)

  pub router_there : (r : RouterId) (x : PrefixValue) → (from_at (forward_maps setup w) r x ≡ None → ⊥) → r.0 < routers_in setup
  router_there r x there = elim (cases_lt r.0 (routers_in setup)) [
    | inl lt ↦ lt
    | inr past ↦
        let empty_there = get_or_past (forward_maps setup w) r.0 empty (subst (λ (n : ℕ). n ≤ r.0) (sym maps_length) past) in
        absurd (there (ap (λ (t : ForwardMap). get t x) empty_there ∙ get-empty prefix_cmp x))
  ]

  -- ---- what each candidate comes from

  module _ (Brings : ℕ → PeeringId → Type 0) (r : ℕ) (x : PrefixValue) where
    -- another router of the home network, which tells of its best route
    pub record IsToldBy (q : RouterId) : Type 0 where
      pub there : q.0 < routers_in setup
      pub other : q.0 ≡ r → ⊥
      pub tells : IsSome (tell_in (get (w.router q.0).best x))

    abbrev pub ComesFrom : From → Type 0
    ComesFrom Own = Unit {0}
    ComesFrom (Peering p) = Brings r p
    ComesFrom (Router q) = IsToldBy q

    abbrev Fits : Candidate → Type 0
    Fits c = ComesFrom c.0.from

    own_fits : (has : Bool) → All Fits (own_candidates setup.home_as has)
    own_fits false = All-nil Fits
    own_fits true = All-cons Fits _ [] tt (All-nil Fits)

    same_from : (d c : Candidate) → Some d ≡ Some c → d.0.from ≡ c.0.from
    same_from d c e = let same : d ≡ c = cc in ap (λ (y : Candidate). y.0.from) same

    session_fits : (session : SessionRoute) (o : Option Route) (c : Candidate) → Brings r session.peering
        → session_candidate setup.home_as session o ≡ Some c → Fits c
    session_fits session None c brings e = absurd cc
    session_fits session (Some route) c brings e = subst ComesFrom (same_from _ c e) brings

    -- what a router among the others tells
    record IsTeller (teller : RouterRoute) : Type 0 where
      there : teller.router.0 < routers_in setup
      other : teller.router.0 ≡ r → ⊥
      is : teller.told ≡ tell_in (get (w.router teller.router.0).best x)

    teller_fits : (teller : RouterRoute) (o : Option Route) (c : Candidate) → IsTeller teller → teller.told ≡ o
        → router_candidate setup.home_as teller o ≡ Some c → Fits c
    teller_fits teller None c t told e = absurd cc
    teller_fits teller (Some route) c t told e = subst ComesFrom (same_from _ c e) by where
      by : IsToldBy teller.router
      by = record { there = t.there; other = t.other; tells = ap is_some (sym t.is ∙ told) }

    abbrev route_of : ℕ → RouterRoute
    route_of q = record {
      router = record { 0 = q };
      identifier = identifier_of setup q;
      cost = cost_between setup r q;
      told = tell_in (get (w.router q).best x);
    }

    abbrev is_other : ℕ → Bool
    is_other q = not (q == r)

    all_tellers : All IsTeller (router_routes setup w r x)
    all_tellers =
        let others : List ℕ = filter is_other (router_numbers setup) in
        let all : All (λ k. k < routers_in setup) (router_numbers setup) = numbers_below (routers_in setup) in
        let below : All (λ k. k < routers_in setup) others = All-filter is_other (λ (k : ℕ). k < routers_in setup) (router_numbers setup) all in
        let passes : All (λ k. is_other k ≡ true) others = filter_passes is_other (router_numbers setup) in
        All-map IsTeller route_of others (λ k d lt. record { there = below k d lt; other = apart _ (passes k d lt); is = refl })
      where
        apart : (k : ℕ) → is_other k ≡ true → k ≡ r → ⊥
        apart k differs same = grind (arith, nat_tests)

    -- ---- the candidates of each kind

    abbrev own : List Candidate
    own = own_candidates setup.home_as (has_network setup r x)

    abbrev of_session : SessionRoute → Option Candidate
    of_session session = session_candidate setup.home_as session (imported setup.home_as x session session.heard)

    abbrev of_teller : RouterRoute → Option Candidate
    of_teller teller = router_candidate setup.home_as teller teller.told

    abbrev from_sessions : List Candidate
    from_sessions = filter_map of_session (session_routes setup w r x)

    abbrev from_routers : List Candidate
    from_routers = filter_map of_teller (router_routes setup w r x)

    abbrev all_candidates : List Candidate
    all_candidates = candidates setup.home_as x (has_network setup r x) (session_routes setup w r x) (router_routes setup w r x)

    abbrev pub AllBring : Type 0
    AllBring = All (λ session. Brings r session.peering) (session_routes setup w r x)

    sessions_fit : AllBring → All Fits from_sessions
    sessions_fit brings = all_given Fits of_session (session_routes setup w r x)
        (All-weaker (λ session. Brings r session.peering) (λ session. (c : Candidate) → of_session session ≡ Some c → Fits c)
        (λ session b c e. session_fits session (imported setup.home_as x session session.heard) c b e) (session_routes setup w r x) brings)

    routers_fit : All Fits from_routers
    routers_fit = all_given Fits of_teller (router_routes setup w r x)
        (All-weaker IsTeller (λ teller. (c : Candidate) → of_teller teller ≡ Some c → Fits c)
        (λ teller t c e. teller_fits teller teller.told c t refl e) (router_routes setup w r x) all_tellers)

    all_fit : AllBring → All Fits all_candidates
    all_fit brings = All-append Fits (own ++ from_sessions) from_routers
        (All-append Fits own from_sessions (own_fits (has_network setup r x)) (sessions_fit brings)) routers_fit

    -- a best route comes from where a candidate does
    pub best_comes : Solves setup w → r < routers_in setup → AllBring → (b : Best) → get (w.router r).best x ≡ Some b → ComesFrom b.from
    best_comes solves lt brings b is =
        choice_has (λ (y : Best). ComesFrom y.from) all_candidates b (all_fit brings) (sym (solves.best r x lt) ∙ is)

    -- where another router tells of its best route, there is a best route
    pub told_some : Solves setup w → r < routers_in setup → (q : ℕ) → q < routers_in setup → (q ≡ r → ⊥)
        → IsSome (tell_in (get (w.router q).best x)) → IsSome (get (w.router r).best x)
    told_some solves lt q q_lt ne tells =
        subst (λ (o : Option Best). IsSome o) (sym (solves.best r x lt)) (choice_some all_candidates there)
      where
        there : all_candidates ≡ [] → ⊥
        there none =
            let last : from_routers ≡ [] = none_behind (own ++ from_sessions) from_routers none in
            let all = all_give_none of_teller route_of is_other (router_numbers setup) last in
            let here = number_there (routers_in setup) q q_lt in
            let at_q : GivesNone of_teller route_of is_other q = All-contains (GivesNone of_teller route_of is_other) (router_numbers setup) q all here in
            no_route setup.home_as (route_of q) (tell_in (get (w.router q).best x)) (at_q (let e : is_other q ≡ true = grind (arith, nat_tests) in e)) tells
