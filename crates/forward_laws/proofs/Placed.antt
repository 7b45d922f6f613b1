-- What sessions bring in stands where they belong by the operator's log.
use Rattle.std.proofs.Common.{◌≡◌, ℕ, ◌<◌, List, [], ◌++◌, map, Some, sym, ap, ◌∙◌, subst, inl, inr}
use Rattle.std.proofs.lemmas.Bool.{cases_eq}
use Rattle.std.proofs.lemmas.List.Elements.{All-nil, All-cons, All-contains, All-map, All-weaker}
use Rattle.std.specs.Prelude.{◌⊎◌, All, slice_get}
use Rattle.std.specs.List.{flat_map}
use Rattle.graft_edge.specs.declared.ids.PeeringId.{PeeringId}
use Rattle.bgp_types.specs.Prefixes.{PrefixValue}
use Rattle.route_policy.specs.Candidates.{SessionRoute}
use Rattle.session_value.specs.Sessions.{SessionValue}
use Rattle.session_value.specs.declared.config.SessionConfig.{SessionConfig}
use Rattle.graft_model.specs.Setups.{Setup, PeeringSetup, IsSetup, routers_in, peerings_in, router_numbers, peering_numbers, config_of}
use Rattle.graft_model.specs.Parts.{Place, World}
use Rattle.graft_model.specs.Decisions.{session_route}
use Rattle.graft_model.specs.OperatorRows.{placement}
use Rattle.graft_model.specs.Claims.{sessions_at, sessions_on, session_routes, Solves, Transparent}
use Rattle.forward_laws.specs.Forwards.{AllTransparent}
use Rattle.forward_laws.proofs.Lists.{mapped, all_front, all_joined, all_parts, numbers_below, number_there}

-- the session of a peering belongs at this router, and the peering is one of the laboratory's
pub record IsPlaced (setup : Setup) (w : World) (r : ℕ) (p : PeeringId) : Type 0 where
  pub placed : r ≡ placement setup w.operator p.0
  pub there : p.0 < peerings_in setup

-- a peering's own session bears its number
own_number : (setup : Setup) (p : ℕ) (config : SessionConfig) → IsSetup setup → config_of setup p ≡ Some config → config.peering.0 ≡ p
own_number setup p config ok own =
    let m = mapped (λ (peering : PeeringSetup). peering.config) (slice_get setup.peerings p) config own in
    ap (λ (c : SessionConfig). c.peering.0) (sym m.is) ∙ (ok.peerings p m.value m.was).number

module _ (setup : Setup) (w : World) (ok : IsSetup setup) (solves : Solves setup w) (transparent : AllTransparent setup w)
    (r : ℕ) (lt : r < routers_in setup) (x : PrefixValue) where
  abbrev IsOwn : ℕ → SessionValue → Type 0
  IsOwn p session = config_of setup p ≡ Some session.config

  -- each session that the router holds is its peering's own
  all_own : (p : ℕ) → p < peerings_in setup → All (IsOwn p) (sessions_at ((w.router r).places p))
  all_own p p_lt =
      let t : Transparent setup w p = transparent p p_lt in
      let held : List SessionValue = flat_map (λ q. sessions_at ((w.router q).places p)) (router_numbers setup) in
      let moving : List SessionValue = flat_map (λ a. flat_map (λ b. flat_map (sessions_on p) (w.mesh a b)) (router_numbers setup)) (router_numbers setup) in
      let one = All-cons (IsOwn p) t.session [] t.own (All-nil (IsOwn p)) in
      let all : All (IsOwn p) (held ++ moving) = subst (λ (sessions : List SessionValue). All (IsOwn p) sessions) (sym t.one) one in
      let parts = all_parts (IsOwn p) (λ (q : ℕ). sessions_at ((w.router q).places p)) (router_numbers setup) (all_front (IsOwn p) held moving all) in
      All-contains (λ q. All (IsOwn p) (sessions_at ((w.router q).places p))) (router_numbers setup) r parts (number_there (routers_in setup) r lt)

  abbrev Fits : SessionRoute → Type 0
  Fits session = IsPlaced setup w r session.peering

  abbrev route_at : SessionValue → SessionRoute
  route_at session = session_route setup r session x

  placed_one : (p : ℕ) → p < peerings_in setup → (session : SessionValue) → r ≡ placement setup w.operator p → IsOwn p session → Fits (route_at session)
  placed_one p p_lt session is own =
      let same : p ≡ session.config.peering.0 = sym (own_number setup p session.config ok own) in
      record { placed = subst (λ (q : ℕ). r ≡ placement setup w.operator q) same is; there = subst (λ (q : ℕ). q < peerings_in setup) same p_lt }

  placed_at : (p : ℕ) → p < peerings_in setup → All Fits (map route_at (sessions_at ((w.router r).places p)))
  placed_at p p_lt = by_place (cases_eq r (placement setup w.operator p)) where
    by_place : (r ≡ placement setup w.operator p) ⊎ (r ≡ placement setup w.operator p → ⊥) → All Fits (map route_at (sessions_at ((w.router r).places p)))
    by_place (inl is) =
        let sessions : List SessionValue = sessions_at ((w.router r).places p) in
        All-map Fits route_at sessions
        (All-weaker (IsOwn p) (λ session. Fits (route_at session)) (λ session own. placed_one p p_lt session is own) sessions (all_own p p_lt))
    by_place (inr ne) =
        subst (λ (place : Place). All Fits (map route_at (sessions_at place))) (sym (((solves.peerings p p_lt).elsewhere r lt ne).0)) (All-nil Fits)

  pub all_placed : All Fits (session_routes setup w r x)
  all_placed = all_joined Fits (λ p. map route_at (sessions_at ((w.router r).places p))) (peering_numbers setup)
      (All-weaker (λ p. p < peerings_in setup) (λ p. All Fits (map route_at (sessions_at ((w.router r).places p)))) placed_at
      (peering_numbers setup) (numbers_below (peerings_in setup)))
