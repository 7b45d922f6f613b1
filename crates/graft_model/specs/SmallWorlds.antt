-- The smallest laboratory in which a session can be at the wrong router, and some of its worlds: one in which nothing is left to do, and others that
-- differ from it in one thing, so that one field of a claim is false.
use Rattle.std.specs.Prelude.{ℕ, [], ◌∷◌, ◌++◌, List, length, None, false}
use Rattle.std.specs.FinMap as map
use Rattle.std.specs.List.{enumerate_from}
use Rattle.bgp_types.specs.declared.attrs.Route.{Route}
use Rattle.bgp_story.specs.Readings.{Routes, put_bytes}
use Rattle.bgp_story.specs.WorkedSessions.{ten, attrs_over}
use Rattle.tcp_seq.specs.Endpoint.{Endpoint, fresh_endpoint}
use Rattle.session_value.specs.declared.config.SessionConfig.{SessionConfig}
use Rattle.session_value.specs.Sessions.{SessionValue, begun, peering_of}
use Rattle.graft_model.specs.First.{first_world, first_router, first_far}
use Rattle.graft_model.specs.Parts.{Place, Vacant, Live, Shadow, Done, RouterPart, FarPart, World}
use Rattle.graft_model.specs.Points.{at}
use Rattle.graft_model.specs.Setups.{Setup, RouterSetup, SettleStep}

-- a router of this BGP Identifier, with room for one session, without networks and policies
abbrev pub router_named : ℕ → RouterSetup
router_named identifier = record { identifier = identifier; room = 1; costs = []; networks = []; policies = [] }

-- the peering 0 of AS 65000 with AS 65001, which starts at router 0, and whose remote says nothing
abbrev pub config : SessionConfig
config = record {
  peering = record { 0 = 0 };
  home_as = 65000;
  identifier = 0x0AFF0001;
  remote_as = 65001;
  offered = false;
  unicast = false;
  home_hold = 0;
  remote_address = 0xC0000201;
  local_address = 0xC0000202;
  send_first = record { 0 = 0 };
  receive_first = record { 0 = 0 };
  import = None;
  export = None;
}

abbrev pub pair : Setup
pair = record {
  home_as = 65000;
  routers = router_named 0x0AFF0001 ∷ router_named 0x0AFF0002 ∷ [];
  peerings = record { start = 0; config = config; opening = []; hold = 0; beats = false } ∷ [];
  steps = SettleStep ∷ [];
}

-- ---- nothing is left to do

-- the octets of the OPEN
abbrev pub small_open_octets : List ℕ
small_open_octets = put_bytes (peering_of config) (begun config).story

-- The session has put its OPEN, and knows that the remote has it.
abbrev pub session : SessionValue
session = record (begun config) {
  end = record fresh_endpoint { stream = small_open_octets; emitted = length small_open_octets; acked = length small_open_octets };
}

-- what the remote has received
abbrev pub remote_with : List ℕ → Endpoint
remote_with bytes = record fresh_endpoint { arrived = map.from_sorted (enumerate_from 0 bytes) }

abbrev pub far : FarPart
far = record (first_far None) { end = remote_with small_open_octets }

abbrev pub holding : Place → RouterPart
holding place = record (first_router pair 0) { places = at (λ p. Vacant) 0 place }

abbrev pub done : World
done = record (first_world pair) { router = at (first_router pair) 0 (holding (Live session None)); far = λ p. far }

-- ---- with another part

abbrev pub with_router : ℕ → RouterPart → World
with_router r part = record done { router = at done.router r part }

abbrev pub with_session : SessionValue → World
with_session s = with_router 0 (holding (Live s None))

abbrev pub with_far : FarPart → World
with_far part = record done { far = λ p. part }

-- ---- not transparent

-- one: the session is lost
abbrev pub with_session_lost : World
with_session_lost = with_router 0 (holding Vacant)

-- legal: the OPEN was put twice
abbrev pub opened_twice : SessionValue
opened_twice = record session { story = (begun config).story ++ (begun config).story }

-- received: an octet that isn't the first of the OPEN
abbrev pub with_octet_received : World
with_octet_received = with_far (record far { end = remote_with (0 ∷ []) })

-- heard: a route to 10.0.0.0/8 that is in no UPDATE
abbrev pub one_route : Routes
one_route = map.insert map.empty ten (attrs_over [])

abbrev pub hearing : SessionValue
hearing = record session { adj_rib_in = one_route }

-- ---- not solved

-- linked: the link points at router 1
abbrev pub with_link_elsewhere : World
with_link_elsewhere = with_far (record far { pointer = 1 })

-- received: nothing of the OPEN
abbrev pub with_nothing_received : World
with_nothing_received = with_far (record far { end = remote_with [] })

-- elsewhere: router 1 has a shadow
abbrev pub with_shadow_left : World
with_shadow_left = with_router 1 (holding (Shadow 1))

abbrev pub route : Route
route = record { attrs = attrs_over []; pref = 100 }

-- tellings: router 1 has a route of router 0, which has none
abbrev pub with_route_kept : World
with_route_kept = with_router 1 (record (first_router pair 1) { tellings = λ q. map.insert map.empty ten route })

-- ---- not quiet

-- mesh: word of a landing is on its way
abbrev pub with_word : World
with_word = record done { mesh = λ a b. Done 1 0 ∷ [] }
