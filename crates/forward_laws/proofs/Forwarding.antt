-- What solved tables say of the routers' forwarding.
use Rattle.std.proofs.Common.{◌≡◌, ℕ, ◌<◌, Option, Some, None, refl, sym, ap, ◌∙◌, subst, inl, inr}
use Rattle.std.proofs.lemmas.Bool.{cases_eq}
use Rattle.std.specs.Prelude.{◌≢◌, ◌⊎◌, All, IsSome, option_map}
use Rattle.std.specs.FinMap.{get}
use Rattle.graft_edge.specs.declared.ids.PeeringId.{PeeringId}
use Rattle.graft_edge.specs.declared.ids.RouterId.{RouterId}
use Rattle.bgp_types.specs.Prefixes.{PrefixValue}
use Rattle.bgp_types.specs.declared.rank.From.{From}
use Rattle.bgp_types.specs.declared.rank.From.TheVariants.{Peering, Router}
use Rattle.route_policy.specs.declared.best.Best.{Best}
use Rattle.route_policy.specs.Telling.{tell_in}
use Rattle.forward_walk.specs.Tables.{from_at}
use Rattle.forward_walk.specs.Solved.{IsExit, AreSolved}
use Rattle.graft_model.specs.Setups.{Setup, IsSetup, routers_in}
use Rattle.graft_model.specs.Parts.{World}
use Rattle.graft_model.specs.Claims.{session_routes, Solves}
use Rattle.forward_laws.specs.Forwards.{AllTransparent, forward_maps}
use Rattle.forward_laws.proofs.Lists.{IsMapped, mapped}
use Rattle.forward_laws.proofs.Sources.{told_exit, exit_told, from_best, maps_length, router_there, IsToldBy, ComesFrom, best_comes, told_some}
use Rattle.forward_laws.proofs.Placed.{IsPlaced, all_placed}

module _ (setup : Setup) (w : World) (solves : Solves setup w) where
  there : (r : RouterId) (x : PrefixValue) (from : From) → from_at (forward_maps setup w) r x ≡ Some from → r.0 < routers_in setup
  there r x from is = router_there setup w r x (λ none. (let no : None ≡ Some from = sym none ∙ is in absurd cc))

  -- an entry comes from where a candidate of its router does
  entry_comes : (Brings : ℕ → PeeringId → Type 0) (r : RouterId) (x : PrefixValue) (from : From)
      → (r.0 < routers_in setup → All (λ session. Brings r.0 session.peering) (session_routes setup w r.0 x))
      → from_at (forward_maps setup w) r x ≡ Some from → ComesFrom setup w Brings r.0 x from
  entry_comes Brings r x from brings is =
      let lt = there r x from is in
      let best : Option Best = get (w.router r.0).best x in
      let m : IsMapped (λ (b : Best). b.from) best from = mapped (λ (b : Best). b.from) best from (sym (from_best setup w r x lt) ∙ is) in
      subst (ComesFrom setup w Brings r.0 x) m.is (best_comes setup w Brings r.0 x solves lt (brings lt) m.value m.was)

  -- which peerings bring in routes isn't looked at
  abbrev Any : ℕ → PeeringId → Type 0
  Any r p = Unit {0}

  pub named : (r q : RouterId) (x : PrefixValue) → from_at (forward_maps setup w) r x ≡ Some (Router q) → IsToldBy setup w Any r.0 x q
  named r q x is = entry_comes Any r x (Router q) (λ lt k d within. tt) is

  pub named_there : (r q : RouterId) (x : PrefixValue) → from_at (forward_maps setup w) r x ≡ Some (Router q) → (q.0 < routers_in setup) × (q ≢ r)
  named_there r q x is = let t = named r q x is in (t.there, λ same. t.other (ap (λ (s : RouterId). s.0) same))

  told : (r q : RouterId) (x : PrefixValue) → from_at (forward_maps setup w) r x ≡ Some (Router q) → IsExit (from_at (forward_maps setup w) q x)
  told r q x is =
      let t = named r q x is in
      subst IsExit (sym (from_best setup w q x t.there)) (told_exit (get (w.router q.0).best x) t.tells)

  mapped_some : (o : Option Best) → IsSome o → IsSome (option_map (λ b. b.from) o)
  mapped_some None some = cc
  mapped_some (Some b) some = refl

  exit_some : (o : Option From) → IsExit o → IsSome o
  exit_some None exit = absurd exit
  exit_some (Some from) exit = refl

  heard : (q r : RouterId) (x : PrefixValue) → IsExit (from_at (forward_maps setup w) q x) → r.0 < routers_in setup
      → IsSome (from_at (forward_maps setup w) r x)
  heard q r x exit lt = by_router (cases_eq q.0 r.0) where
    q_there : q.0 < routers_in setup
    q_there = router_there setup w q x (λ none. subst IsExit none exit)

    by_router : (q.0 ≡ r.0) ⊎ (q.0 ≡ r.0 → ⊥) → IsSome (from_at (forward_maps setup w) r x)
    by_router (inl same) =
        subst (λ (n : ℕ). IsSome (from_at (forward_maps setup w) (record { 0 = n }) x)) same (exit_some (from_at (forward_maps setup w) q x) exit)
    by_router (inr ne) =
        let exit_there = subst IsExit (from_best setup w q x q_there) exit in
        let tells : IsSome (tell_in (get (w.router q.0).best x)) = exit_told (get (w.router q.0).best x) exit_there in
        let best : IsSome (get (w.router r.0).best x) = told_some setup w Any r.0 x solves lt q.0 q_there ne tells in
        subst (λ (o : Option From). IsSome o) (sym (from_best setup w r x lt)) (mapped_some (get (w.router r.0).best x) best)

  pub are_solved : AreSolved (forward_maps setup w)
  are_solved = record {
    told = told;
    heard = λ q r x exit lt. heard q r x exit (subst (λ (n : ℕ). r.0 < n) (maps_length setup w) lt);
  }

  pub placed : IsSetup setup → AllTransparent setup w → (r : RouterId) (p : PeeringId) (x : PrefixValue)
      → from_at (forward_maps setup w) r x ≡ Some (Peering p) → IsPlaced setup w r.0 p
  placed ok transparent r p x is =
      entry_comes (IsPlaced setup w) r x (Peering p) (λ lt. all_placed setup w ok solves transparent r.0 lt x) is
