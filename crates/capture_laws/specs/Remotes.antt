-- The sessions in the capture of a run are those of its remotes.
use Rattle.std.specs.Prelude.{ℕ, ◌≡◌, ◌<◌, List, take, Some, slice_get}
use Rattle.tcp_seq.specs.Endpoint.{Endpoint}
use Rattle.tcp_seq.specs.declared.segment.Way.TheVariants.{Home}
use Rattle.graft_model.specs.Parts.{World}
use Rattle.captured_streams.specs.declared.directed.Peer.{Peer}
use Rattle.captured_streams.specs.declared.streams.Streams.{Streams}
use Rattle.imported_sessions.specs.Messages.{stream}
use Rattle.lab_tables.specs.declared.input.LabInput.{LabInput}
use Rattle.lab_tables.specs.declared.input.PeeringInput.{PeeringInput}
use Rattle.lab_capture.specs.Ends.{home_socket, remote_socket}

-- what a remote has sent at least once of what it says
abbrev pub sent : Endpoint → List ℕ
sent end = take end.emitted end.stream

-- The k-th session of a capture is that of a peering of the laboratory: it has its ends, and of its remote just the octets that this has sent.
pub record IsPeeringOf (input : LabInput) (w : World) (s : Streams) (k : ℕ) (peer : Peer) (p : ℕ) : Type 0 where
  pub peering : PeeringInput
  pub at : slice_get input.peerings p ≡ Some peering
  pub home : peer.home ≡ home_socket peering
  pub remote : peer.remote ≡ remote_socket p peering
  pub says : stream Home k s.flows ≡ sent (w.far p).end

-- These are the sessions of a capture of a run to this world: each session is that of a peering, and each remote that has sent octets has one.
pub record AreOfRemotes (input : LabInput) (w : World) (s : Streams) : Type 0 where
  pub each : (k : ℕ) (peer : Peer) → slice_get s.peers k ≡ Some peer → (p : ℕ) × IsPeeringOf input w s k peer p
  pub all : (p : ℕ) → 0 < (w.far p).end.emitted → (k : ℕ) × (peer : Peer) × (slice_get s.peers k ≡ Some peer) × IsPeeringOf input w s k peer p
