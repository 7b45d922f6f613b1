-- How a session is tied to its story.
use Rattle.std.specs.Prelude.{ℕ, ◌≡◌, ◌≤◌, length, take}
use Rattle.bgp_types.specs.declared.message.SessionState.{SessionState}
use Rattle.bgp_types.specs.declared.message.SessionState.TheVariants.{OpenSent, OpenConfirm, Established, Closed}
use Rattle.bgp_story.specs.Legal.{Allowed}
use Rattle.bgp_story.specs.Readings.{IsLegal, put_bytes, got_bytes, heard, told}
use Rattle.tcp_seq.specs.Endpoint.{received, received_bytes}
use Rattle.session_value.specs.Sessions.{SessionValue, peering_of, state}

-- The most bytes that a session has put. Until it is closed, a NOTIFICATION, which has at most 4,096 octets (RFC 4271, section 4.1), fits behind them
-- in a stream of 1 MiB.
abbrev pub most_put : SessionState → ℕ
most_put OpenSent = 1044480
most_put OpenConfirm = 1044480
most_put Established = 1044480
most_put Closed = 1048576

-- The endpoint is tied to the story: what the endpoint sends is what the story put, and what was read of what it received is what the story got. The
-- story is legal, except that its UPDATEs need not change what was told.
pub record IsTied (session : SessionValue) : Type 0 where
  pub allowed : Allowed (peering_of session.config) session.story (state session)
  pub put : session.end.stream ≡ put_bytes (peering_of session.config) session.story
  pub room : length session.end.stream ≤ most_put (state session)
  pub read : session.end.read ≤ received session.end
  pub got : take session.end.read (received_bytes session.end) ≡ got_bytes session.story

-- The session is what its story says: its endpoint is tied to the story, which is legal, and its two tables are those of the story.
pub record IsOfStory (session : SessionValue) : Type 0 where
  pub tied : IsTied session
  pub legal : IsLegal (peering_of session.config) session.story (state session)
  pub adj_rib_in : session.adj_rib_in ≡ heard (peering_of session.config) session.story
  pub adj_rib_out : session.adj_rib_out ≡ told session.story
