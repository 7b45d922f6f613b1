-- The claims without one field, for a world in which the session is to be at router b, so that this field may be the only false one.
use Rattle.std.specs.Prelude.{◌≡◌, ◌≢◌, [], ◌∷◌, Some, None}
use Rattle.std.specs.FinMap as map
use Rattle.bgp_types.specs.Prefixes.{PrefixValue}
use Rattle.bgp_story.specs.Readings.{IsLegal, put_bytes, got_bytes, heard, told}
use Rattle.decision_core.specs.Choice.{choice}
use Rattle.route_policy.specs.Candidates.{candidates}
use Rattle.route_policy.specs.Telling.{tell_in}
use Rattle.tcp_seq.specs.Endpoint.{received_bytes}
use Rattle.session_value.specs.Sessions.{SessionValue, peering_of, state, while_established}
use Rattle.session_value.specs.Fronts.{AreFirst}
use Rattle.graft_model.specs.Claims.{GotAll, sessions_of, session_routes, router_routes}
use Rattle.graft_model.specs.Decisions.{to_tell}
use Rattle.graft_model.specs.OperatorRows.{placement}
use Rattle.graft_model.specs.Parts.{Vacant, Live, World}
use Rattle.graft_model.specs.Setups.{config_of, has_network}
use Rattle.graft_worked.specs.Base.{base}

-- the fields that may be false
pub data AloneField : Type 0 where
  One : AloneField
  Own : AloneField
  Legal : AloneField
  Received : AloneField
  Got : AloneField
  AdjRibIn : AloneField
  AdjRibOut : AloneField
  Placed : AloneField
  Linked : AloneField
  Elsewhere : AloneField
  Best : AloneField
  Tellings : AloneField

-- `Transparent`, of this session
pub record TransparentBut (but : AloneField) (w : World) (s : SessionValue) : Type 0 where
  pub one : but ≢ One → sessions_of base w 0 ≡ s ∷ []
  pub own : but ≢ Own → config_of base 0 ≡ Some s.config
  pub legal : but ≢ Legal → IsLegal (peering_of s.config) s.story (state s)
  pub received : but ≢ Received → AreFirst (received_bytes (w.far 0).end) (put_bytes (peering_of s.config) s.story)
  pub got : but ≢ Got → AreFirst (got_bytes s.story) (w.far 0).end.stream
  pub adj_rib_in : but ≢ AdjRibIn → s.adj_rib_in ≡ heard (peering_of s.config) s.story
  pub adj_rib_out : but ≢ AdjRibOut → s.adj_rib_out ≡ told s.story

-- `Solves`, of routers a and b and of this session
pub record SolvesBut (but : AloneField) (w : World) (s : SessionValue) : Type 0 where
  pub best_at_a : but ≢ Best → (prefix : PrefixValue) → map.get (w.router 0).best prefix
      ≡ choice (candidates base.home_as prefix (has_network base 0 prefix) (session_routes base w 0 prefix) (router_routes base w 0 prefix))
  pub best_at_b : (prefix : PrefixValue) → map.get (w.router 1).best prefix
      ≡ choice (candidates base.home_as prefix (has_network base 1 prefix) (session_routes base w 1 prefix) (router_routes base w 1 prefix))
  pub told_to_b : but ≢ Tellings → (prefix : PrefixValue) → map.get ((w.router 1).tellings 0) prefix ≡ tell_in (map.get (w.router 0).best prefix)
  pub told_to_a : (prefix : PrefixValue) → map.get ((w.router 0).tellings 1) prefix ≡ tell_in (map.get (w.router 1).best prefix)
  pub logged : placement base w.operator 0 ≡ 1
  pub placed : but ≢ Placed → (w.router 1).places 0 ≡ Live s None
  pub linked : but ≢ Linked → (w.far 0).pointer ≡ 1
  pub adj_rib_out : but ≢ AdjRibOut → (prefix : PrefixValue) → map.get s.adj_rib_out prefix ≡ while_established (state s) (to_tell base 1 (w.router 1) s prefix)
  pub received : but ≢ Received → received_bytes (w.far 0).end ≡ put_bytes (peering_of s.config) s.story
  pub got : but ≢ Got → GotAll s (w.far 0).end.stream
  pub elsewhere : but ≢ Elsewhere → ((w.router 0).places 0 ≡ Vacant) × ((w.router 0).entries 0 ≡ map.empty)
