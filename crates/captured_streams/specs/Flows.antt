-- The octets of sessions, in order, as a capture brings them.
use Rattle.std.specs.Prelude.{ℕ, ◌≡◌, ◌+◌, ◌^◌, ◌==◌, nat_lt, Bool, ◌&&◌, ◌||◌, false, not, if◌then◌else◌, List, [], ◌∷◌, length, map}
use Rattle.std.specs.Prelude.{Option, Some, None, slice_get, slice_index_or, slice_set}
use Rattle.std.specs.Option.{option_and_then}
use Rattle.tcp_seq.specs.Numbers.{offset_from}
use Rattle.tcp_seq.specs.declared.segment.Way.{Way}
use Rattle.tcp_seq.specs.declared.segment.Way.TheVariants.{Home, Remote}
use Rattle.tcp_reasm.specs.Reassembly.{Reassembly, Puts, TakesReady, nothing_from}
use Rattle.tcp_packets.specs.Reading.{Segment}
use Rattle.captured_streams.specs.declared.directed.Peer.{Peer}
use Rattle.captured_streams.specs.declared.streams.Flow.{Flow}
use Rattle.captured_streams.specs.declared.directed.Directed.{Directed}
use Rattle.captured_streams.specs.declared.flows.Stream.{Stream}
use Rattle.captured_streams.specs.declared.flows.Both.{Both}
use Rattle.captured_streams.specs.Peers.{peer_at}

-- ---- one way of a connection

-- A stream begins with the first segment that opens its connection or has octets.
abbrev pub begins : Segment → Bool
begins s = s.opens || not (length s.octets == 0)

abbrev pub stream_at : Option Stream → Segment → Option Stream
stream_at (Some stream) s = Some stream
stream_at None s = if begins s then Some (record { given = 0; rest = nothing_from s.first }) else None

-- A segment has an octet beyond the window, the 16,384 from the next one that is expected on: it can't be kept, and there is a hole in front of it.
-- Half of all numbers are ahead of that one, and the others behind (RFC 9293, section 3.4).
abbrev pub is_beyond : Stream → Segment → Bool
is_beyond stream s =
    not (length s.octets == 0) && nat_lt (offset_from s.first stream.rest.next) (2 ^ 31)
    && nat_lt 16384 (offset_from s.first stream.rest.next + length s.octets)

-- what a segment brings that is in order then: its octets are put, and all that is ready is given; an octet that is there stays
pub record Brings (before : Stream) (s : Segment) (octets : List ℕ) (after : Stream) : Type 0 where
  pub between : Reassembly
  pub puts : Puts before.rest between s.first s.octets
  pub takes : TakesReady between after.rest [] octets (length octets)
  pub given : after.given ≡ before.given + length octets

-- Of what a remote sends nothing may be missing. What the home side sends beyond the window is left out.
abbrev pub MayBring : Way → Stream → Segment → Type 0
MayBring Home stream s = is_beyond stream s ≡ false
MayBring Remote stream s = Unit {0}

-- ---- all connections

abbrev pub one_way : Way → Both → Option Stream
one_way Home both = both.to_home
one_way Remote both = both.to_remote

abbrev pub with_stream : Way → Stream → Both → Both
with_stream Home stream both = record both { to_home = Some stream }
with_stream Remote stream both = record both { to_remote = Some stream }

abbrev pub stream_of : List Both → (k : ℕ) → Way → Option Stream
stream_of all k way = option_and_then (one_way way) (slice_get all k)

abbrev pub none_begun : List Peer → List Both
none_begun known = map (λ peer. record { to_home = None; to_remote = None }) known

abbrev pub set_stream : List Both → (k : ℕ) → Way → Stream → List Both
set_stream all k way stream = slice_set all k (with_stream way stream (slice_index_or all k (record { to_home = None; to_remote = None })))

-- A segment of this connection, whose stream so far is named, brings octets, and this is what comes behind.
abbrev pub BringsOn : List Both → Directed → List Flow → (List Both → List Flow → Type 0) → (k : ℕ) → Option Stream → Type 0
BringsOn all s flows Behind k None = Behind all flows
BringsOn all s flows Behind k (Some before) =
    (octets : List ℕ) × (after : Stream) × (more : List Flow) × MayBring s.way before s.segment × Brings before s.segment octets after
    × (flows ≡ record { peer = k; way = s.way; octets = octets } ∷ more) × Behind (set_stream all k s.way after) more

-- Segments of other connections bring nothing.
abbrev pub BringsAt : List Both → Directed → List Flow → (List Both → List Flow → Type 0) → Option ℕ → Type 0
BringsAt all s flows Behind None = Behind all flows
BringsAt all s flows Behind (Some k) = BringsOn all s flows Behind k (stream_at (stream_of all k s.way) s.segment)

-- Segments bring these flows, one behind another, and leave the streams so: each one of a known connection, from the beginning of its stream on, has a
-- flow, which has no octets where nothing new is in order.
abbrev pub AreFlows : List Peer → List Both → List Directed → List Flow → List Both → Type 0
AreFlows known all [] flows end = (flows ≡ []) × (end ≡ all)
AreFlows known all (s ∷ rest) flows end = BringsAt all s flows (λ after more. AreFlows known after rest more end) (peer_at known s)
