-- What a capture is read as: its sessions, and what is missing.
use Rattle.std.specs.Prelude.{ℕ, ◌≡◌, ◌<◌, ◌⊎◌, true, false, Bool, List, ◌∷◌, ◌++◌, count_by, Option, Some, Result, Err, slice_get}
use Rattle.tcp_seq.specs.declared.segment.Way.TheVariants.{Home}
use Rattle.pcap_form.specs.Blocks.{Captured}
use Rattle.tcp_packets.specs.declared.read.LeftOut.{LeftOut}
use Rattle.tcp_packets.specs.declared.read.LeftOut.TheVariants.{Fragment}
use Rattle.tcp_reasm.specs.Reassembly.{byte_ahead}
use Rattle.tcp_packets.specs.Reading.{Segment, read_packet}
use Rattle.captured_streams.specs.declared.directed.Peer.{Peer}
use Rattle.captured_streams.specs.declared.streams.Streams.{Streams}
use Rattle.captured_streams.specs.declared.streams.Flow.{Flow}
use Rattle.captured_streams.specs.declared.stop.Hole.{Hole}
use Rattle.captured_streams.specs.declared.directed.Directed.{Directed}
use Rattle.captured_streams.specs.declared.flows.Stream.{Stream}
use Rattle.captured_streams.specs.declared.flows.Both.{Both}
use Rattle.captured_streams.specs.Directed.{directed}
use Rattle.captured_streams.specs.Peers.{peers, peer_at, is_other}
use Rattle.captured_streams.specs.Flows.{AreFlows, none_begun, stream_at, stream_of, is_beyond}

abbrev pub is_left : Result Segment LeftOut → Bool
is_left (Err Fragment) = true
is_left answer = false

abbrev pub is_fragment : Captured → Bool
is_fragment packet = is_left (read_packet packet)

-- a stream has octets behind a hole
abbrev pub HasOctets : Stream → Type 0
HasOctets stream = (offset : ℕ) × (octet : ℕ) × (byte_ahead stream.rest offset ≡ Some octet)

-- a remote's stream has them
abbrev pub HasRest : List Both → ℕ → Stream → Type 0
HasRest all k stream = (stream_of all k Home ≡ Some stream) × HasOctets stream

-- These are the sessions of a capture: the first connection of each remote on which it sends octets, what its segments bring, and how many packets are
-- left out: fragments, and segments of other connections. No remote's stream has octets behind a hole at its end.
pub record IsReading (home : Option ℕ) (packets : List Captured) (answer : Streams) : Type 0 where
  pub end : List Both
  pub peers_are : answer.peers ≡ peers (directed home packets)
  pub flows : AreFlows answer.peers (none_begun answer.peers) (directed home packets) answer.flows end
  pub whole : (k : ℕ) (stream : Stream) → ¬ HasRest end k stream
  pub fragments : answer.fragments ≡ count_by is_fragment packets
  pub others : answer.others ≡ count_by (is_other answer.peers) (directed home packets)

-- A remote's octets are missing, this many behind its stream's beginning.
abbrev pub IsOf : List Peer → (k : ℕ) → Stream → Hole → Type 0
IsOf known k stream hole = (peer : Peer) × (slice_get known k ≡ Some peer) × (hole.remote ≡ peer.remote) × (hole.octet ≡ stream.given)

-- the first segment that is beyond the window of its stream
pub record IsBeyond (known : List Peer) (segments : List Directed) (hole : Hole) : Type 0 where
  pub before : List Directed
  pub s : Directed
  pub rest : List Directed
  pub is : segments ≡ before ++ s ∷ rest
  pub flows : List Flow
  pub all : List Both
  pub brought : AreFlows known (none_begun known) before flows all
  pub k : ℕ
  pub stream : Stream
  pub at : peer_at known s ≡ Some k
  pub way : s.way ≡ Home
  pub so_far : stream_at (stream_of all k Home) s.segment ≡ Some stream
  pub beyond : is_beyond stream s.segment ≡ true
  pub of : IsOf known k stream hole

-- the first stream that has octets behind a hole at the end
pub record IsLeft (known : List Peer) (segments : List Directed) (hole : Hole) : Type 0 where
  pub flows : List Flow
  pub end : List Both
  pub brought : AreFlows known (none_begun known) segments flows end
  pub k : ℕ
  pub stream : Stream
  pub rest : HasRest end k stream
  pub first : (n : ℕ) (other : Stream) → n < k → ¬ HasRest end n other
  pub of : IsOf known k stream hole

abbrev pub IsHole : Option ℕ → List Captured → Hole → Type 0
IsHole home packets hole =
    IsBeyond (peers (directed home packets)) (directed home packets) hole ⊎ IsLeft (peers (directed home packets)) (directed home packets) hole
