-- A home session as one value (RFC 4271, section 3.2; RFC 9293, section 3.4).
use Rattle.std.specs.Prelude.{ℕ, [], ◌∷◌, List, Option, None}
use Rattle.std.specs.FinMap as map
use Rattle.bgp_types.specs.declared.attrs.Attrs.{Attrs}
use Rattle.bgp_types.specs.declared.message.Message.TheVariants.{OpenMsg}
use Rattle.bgp_types.specs.declared.message.SessionState.{SessionState}
use Rattle.bgp_types.specs.declared.message.SessionState.TheVariants.{OpenSent, OpenConfirm, Established, Closed}
use Rattle.tcp_seq.specs.Endpoint.{Endpoint, fresh_endpoint, ready_bytes}
use Rattle.bgp_story.specs.declared.line.Line.{Line}
use Rattle.bgp_story.specs.declared.line.Line.TheVariants.{Put}
use Rattle.bgp_story.specs.Legal.{Peering, hold}
use Rattle.bgp_story.specs.Opens.{home_open}
use Rattle.bgp_story.specs.Readings.{Routes, put_bytes}
use Rattle.bgp_story.specs.States.{state_of}
use Rattle.session_value.specs.declared.config.SessionConfig.{SessionConfig}

-- what a session begins with; its story; the routes that it heard and told, its Adj-RIB-In and Adj-RIB-Out; and its endpoint, whose stream is what it
-- put, and which has read as much of the received bytes as it got
pub record SessionValue : Type 0 where
  pub config : SessionConfig
  pub story : List Line
  pub adj_rib_in : Routes
  pub adj_rib_out : Routes
  pub end : Endpoint

-- what the stories of a session depend on: the OPEN that it puts, and the AS of the remote
abbrev pub peering_of : SessionConfig → Peering
peering_of config = record { first = home_open config.home_as config.home_hold config.identifier config.offered config.unicast; remote_as = config.remote_as }

abbrev pub state : SessionValue → SessionState
state session = state_of session.story

-- what is told on a session in this state: nothing unless the session is established
abbrev pub while_established : SessionState → Option Attrs → Option Attrs
while_established OpenSent attrs = None
while_established OpenConfirm attrs = None
while_established Established attrs = attrs
while_established Closed attrs = None

-- the bytes that were received and aren't got yet
abbrev pub unread : SessionValue → List ℕ
unread session = ready_bytes session.end

-- the hold time in force: the smaller one of the two OPENs, 0 before the remote's was got (RFC 4271, section 4.2)
abbrev pub hold_time : SessionValue → ℕ
hold_time session = hold (peering_of session.config) session.story

-- The session has put its OPEN, and none of it was emitted.
abbrev pub begun : SessionConfig → SessionValue
begun config = let story : List Line = Put (OpenMsg (peering_of config).first) ∷ [] in record {
  config = config;
  story = story;
  adj_rib_in = map.empty;
  adj_rib_out = map.empty;
  end = record fresh_endpoint { stream = put_bytes (peering_of config) story };
}
