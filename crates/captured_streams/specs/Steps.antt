-- What one segment does.
use Rattle.std.specs.Prelude.{ℕ, ◌≡◌, true, List, [], Option, Some, None}
use Rattle.tcp_seq.specs.declared.segment.Way.{Way}
use Rattle.tcp_seq.specs.declared.segment.Way.TheVariants.{Home, Remote}
use Rattle.tcp_packets.specs.Reading.{Segment}
use Rattle.captured_streams.specs.declared.directed.Directed.{Directed}
use Rattle.captured_streams.specs.declared.flows.Stream.{Stream}
use Rattle.captured_streams.specs.declared.flows.Both.{Both}
use Rattle.captured_streams.specs.declared.flows.Step.{Step}
use Rattle.captured_streams.specs.declared.flows.Step.TheVariants.{Nothing, Brings as BringsOctets, Beyond}
use Rattle.captured_streams.specs.declared.streams.Flow.{Flow}
use Rattle.captured_streams.specs.Flows.{stream_at, stream_of, is_beyond, Brings, MayBring, BringsOn}

-- a stream with a segment beyond its window: it is the remote's, and gave this many octets
abbrev pub IsBeyondAt : Way → Option Stream → Segment → (given : ℕ) → Type 0
IsBeyondAt way old s given =
    (stream : Stream) × (way ≡ Home) × (stream_at old s ≡ Some stream) × (is_beyond stream s ≡ true) × (given ≡ stream.given)

-- A segment does this to the stream of its way: nothing, where it hasn't begun; or it brings octets; or it is beyond the window.
abbrev pub IsStep : Way → (old : Option Stream) → Segment → (new : Option Stream) → Step → Type 0
IsStep way old s new Nothing = (stream_at old s ≡ None) × (new ≡ old)
IsStep way old s new (BringsOctets octets) =
    (before : Stream) × (after : Stream) × (stream_at old s ≡ Some before) × MayBring way before s × Brings before s octets after × (new ≡ Some after)
IsStep way old s new (Beyond given) = IsBeyondAt way old s given

abbrev pub with_slot : Way → Option Stream → Both → Both
with_slot Home slot both = record both { to_home = slot }
with_slot Remote slot both = record both { to_remote = slot }

-- a segment of this connection brings these flows, one or none
abbrev pub BringsNext : List Both → Directed → (k : ℕ) → List Flow → List Both → Type 0
BringsNext all s k flows after =
    BringsOn all s flows (λ end more. (more ≡ []) × (after ≡ end)) k (stream_at (stream_of all k s.way) s.segment)
