-- Settled worlds of even laboratories are the solution for the places of the sessions.
use Rattle.std.proofs.Common.{◌≡◌, ◌≢◌, ℕ, zero, suc, ◌<◌, eqb, Bool, true, false, cond, List, [], ◌∷◌, ◌++◌, length}
use Rattle.std.proofs.Common.{map, Option, Some, sym, ap, ◌∙◌, subst, arith, ◌⊎◌, inl, inr}
use Rattle.std.specs.Prelude.{◌==◌, slice_get}
use Rattle.std.specs.FinMap as finmap
use Rattle.std.specs.List.{AllByRecursion, filter_map}
use Rattle.std.proofs.lemmas.Bool.{cases_eq}
use Rattle.std.proofs.lemmas.Bool.Decides.{nat_tests}
use Rattle.bgp_types.specs.Prefixes.{PrefixValue}
use Rattle.bgp_story.specs.Legal.{got_open}
use Rattle.bgp_story.specs.Readings.{Routes}
use Rattle.route_policy.specs.declared.best.Best.{Best}
use Rattle.route_policy.specs.Candidates.{SessionRoute, Candidate, own_candidates}
use Rattle.route_policy.specs.Telling.{tell_in}
use Rattle.session_value.specs.declared.config.SessionConfig.{SessionConfig}
use Rattle.session_value.specs.Sessions.{peering_of, state}
use Rattle.graft_model.specs.Claims as claims
use Rattle.graft_model.specs.Decisions.{session_route}
use Rattle.graft_model.specs.OperatorRows.{placement}
use Rattle.graft_model.specs.Parts.{Place, World}
use Rattle.graft_model.specs.Setups.{Setup, PeeringSetup, IsSetup, routers_in, has_network}
use Rattle.graft_laws.specs.Keeps.{Reached}
use Rattle.graft_laws.proofs.QuietSolves.{quiet_solves_is}
use Rattle.even_meshes.specs.Meshes as meshes
use Rattle.even_meshes.proofs.Solutions.{one_solution}
use Rattle.one_answer.specs.Settled.{said_in_all, HasNoTimer, IsSettled}
use Rattle.one_answer.proofs.Held.{Held, held}
use Rattle.one_answer.proofs.Joined.{all_in, route_by}
use Rattle.even_inputs.specs.Evenness.{meds_in, first_med, is_even}
use Rattle.even_inputs.specs.Readings.{Reading}
use Rattle.even_inputs.specs.Solutions.{reading_in, read_route, mesh_placed, solution_of, IsLiveAsRead, IsTheSolution}
use Rattle.even_inputs.proofs.Lists.{at_below, flat_by_number}
use Rattle.even_inputs.proofs.AllRead.{told_by, reads_all}
use Rattle.even_inputs.proofs.Joined.{base_even}

module _ (setup : Setup) (w : World) (ok : IsSetup setup) (timer : HasNoTimer setup) (reached : Reached setup w) (settled : IsSettled setup w) where
  abbrev placed : ℕ → ℕ
  placed = placement setup w.operator

  -- ---- sessions

  module _ (p : ℕ) (peering : PeeringSetup) (is : slice_get setup.peerings p ≡ Some peering) where
    has : Held setup w p peering
    has = held setup ok timer w reached settled p peering (in_list setup.peerings p is) is
      where
        in_list : (xs : List PeeringSetup) (n : ℕ) → slice_get xs n ≡ Some peering → n < length xs
        in_list [] n e = absurd cc
        in_list (x ∷ xs) zero e = omega arith
        in_list (x ∷ xs) (suc n) e = let l = in_list xs n e in omega (arith, l)

    read : reading_in setup (p, peering) ≡ told_by peering has.session.story (state has.session)
    read = reads_all peering (said_in_all setup p peering) has.session.story (state has.session) has.reads

    has_read : IsLiveAsRead setup w (placed p) p peering
    has_read = record {
      session = has.session;
      here = has.here;
      state_is = ap (λ (x : Reading). x.state) (sym read);
      adj_rib_in = has.adj_rib_in ∙ ap (λ (x : Reading). x.adj_rib_in) (sym read);
    }

    module _ (r : ℕ) (prefix : PrefixValue) where
      route_is : session_route setup r has.session prefix ≡ read_route setup r prefix (p, peering)
      route_is =
          ap (λ (c : SessionConfig). route_by setup r c (got_open (peering_of c) has.session.story) has.session.adj_rib_in prefix) has.config
          ∙ ap (λ (t : Routes). route_by setup r peering.config (got_open (peering_of peering.config) has.session.story) t prefix) has.adj_rib_in
          ∙ ap (λ (x : Reading). route_by setup r peering.config x.opened x.adj_rib_in prefix) (sym read)

      abbrev routes_at : Place → List SessionRoute
      routes_at place = map (λ session. session_route setup r session prefix) (claims.sessions_at place)

      routes_are : r < routers_in setup → routes_at ((w.router r).places p) ≡ cond (placed p == r) (read_route setup r prefix (p, peering) ∷ []) []
      routes_are l = by_place (cases_eq r (placed p)) where
        by_place : (r ≡ placed p) ⊎ (r ≢ placed p) → routes_at ((w.router r).places p) ≡ cond (placed p == r) (read_route setup r prefix (p, peering) ∷ []) []
        by_place (inl e) =
            let here : eqb (placed p) r ≡ true = grind (arith, nat_tests) in
            ap routes_at (ap (λ (q : ℕ). (w.router q).places p) e ∙ has.here)
            ∙ ap (λ (x : SessionRoute). x ∷ []) route_is
            ∙ sym (ap (λ (b : Bool). cond b (read_route setup r prefix (p, peering) ∷ []) []) here)
        by_place (inr ne) =
            let other : eqb (placed p) r ≡ false = grind (arith, nat_tests) in
            ap routes_at (has.elsewhere r l ne)
            ∙ sym (ap (λ (b : Bool). cond b (read_route setup r prefix (p, peering) ∷ []) []) other)

  -- ---- tables

  module _ (even : is_even setup ≡ true) (prefix : PrefixValue) where
    abbrev mesh : meshes.PrefixMesh
    mesh = mesh_placed setup placed prefix

    -- what sessions bring in is what the script gives for their places
    routes_placed : (r : ℕ) → r < routers_in setup → claims.session_routes setup w r prefix ≡ mesh.sessions r
    routes_placed r l = flat_by_number _ (λ (p : ℕ × PeeringSetup). placed p.0 == r) (read_route setup r prefix) setup.peerings
        (λ k peering is. routes_are k peering is r prefix l)

    abbrev IsEvenly : Candidate → Type 0
    IsEvenly c = c.1.med ≡ first_med (meds_in setup) prefix c.1.neighbour

    evenly : meshes.IsEven mesh
    evenly = record {
      med = λ neighbour. first_med (meds_in setup) prefix neighbour;
      each = all_in _ 0 (routers_in setup) (λ r l. at_router r (omega (arith, l)));
    }
      where
        at_router : (r : ℕ) → r < routers_in setup → AllByRecursion IsEvenly (meshes.candidates_alone mesh r)
        at_router r l = subst (λ (sessions : List SessionRoute). AllByRecursion IsEvenly
            (own_candidates setup.home_as (has_network setup r prefix) ++ filter_map (meshes.session_brings mesh) sessions)) (routes_placed r l)
            (base_even setup even prefix w ok timer reached settled r l)

    abbrev best : ℕ → Option Best
    best r = finmap.get (w.router r).best prefix

    solves : claims.Solves setup w
    solves = quiet_solves_is setup w ok reached settled.quiet

    solves_placed : meshes.SolvesMesh mesh best
    solves_placed = all_in _ 0 (routers_in setup) (λ r l. at_router r (omega (arith, l)))
      where
        at_router : (r : ℕ) → r < routers_in setup → best r ≡ meshes.decided mesh (λ q. tell_in (best q)) r
        at_router r l = solves.best r prefix l
            ∙ ap (λ (sessions : List SessionRoute). meshes.decided (record mesh { sessions = λ _. sessions }) (λ q. tell_in (best q)) r) (routes_placed r l)

    best_is : (r : ℕ) → r < routers_in setup → best r ≡ solution_of setup placed r prefix
    best_is r l = at_below (λ q. best q ≡ solution_of setup placed q prefix) (routers_in setup) r (one_solution mesh best evenly solves_placed) l

  pub the_solution : is_even setup ≡ true → IsTheSolution setup w
  the_solution even = record {
    best = λ r prefix l. best_is even prefix r l;
    sessions = λ p peering is. has_read p peering is;
  }
