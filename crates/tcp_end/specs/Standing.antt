-- Which endpoint over whole numbers a state of 32-bit numbers and buffers stands for, and what it means that a call is a step of that endpoint.
use Rattle.std.specs.Prelude.{ℕ, ◌≡◌, ◌≤◌, ◌+◌, length, drop, Option, Some, None, IsSome}
use Rattle.std.specs.FinMap as map
use Rattle.tcp_seq.specs.Numbers.{number}
use Rattle.tcp_seq.specs.Rules.{IsInStream}
use Rattle.tcp_seq.specs.Endpoint.{Endpoint, PlacedSegment, received, ready_bytes, TakesSegment, IsInStreams}
use Rattle.tcp_seq.specs.declared.segment.Segment.{Segment}
use Rattle.tcp_seq.specs.declared.state.EndState.{EndState}
use Rattle.tcp_reasm.specs.Runs.{held}
use Rattle.tcp_end.specs.State.{IsEndState}

-- A state stands for an endpoint.
pub record EndStands (s : EndState) (e : Endpoint) : Type 0 where
  pub sound : IsEndState s
  pub acked : e.acked ≡ s.acked
  pub emitted : e.emitted ≡ s.sent
  pub read : e.read ≡ s.taken
  pub owed : e.owed ≡ s.owed
  -- the stream that it sends is what was acknowledged, followed by what is waiting
  pub acked_within : e.acked ≤ length e.stream
  pub waiting : s.waiting ≡ drop e.acked e.stream
  -- what is ready is the received bytes behind those that were read
  pub read_within : e.read ≤ received e
  pub ready : s.ready ≡ ready_bytes e
  -- from the received length on, an offset has the byte that a piece has there
  pub ahead : (offset : ℕ) → received e ≤ offset → map.get e.arrived offset ≡ held s.ahead offset
  -- and no byte is past a stream of at most 1 MiB and a window at its end
  pub in_stream : (offset : ℕ) → IsSome (map.get e.arrived offset) → IsInStream (offset + 1)

-- a segment has the numbers of an offset and of an acknowledged length, and its bytes
pub record Numbered (seq_first ack_first : ℕ) (g : Segment) (p : PlacedSegment) : Type 0 where
  pub seq : g.seq.0 ≡ number seq_first p.offset
  pub ack : g.ack.0 ≡ number ack_first p.ack
  pub bytes : g.bytes ≡ p.bytes

-- the numbers of the first bytes are unchanged
pub record SameNumbers (before after : EndState) : Type 0 where
  pub send_first : after.send_first ≡ before.send_first
  pub receive_first : after.receive_first ≡ before.receive_first

-- a state stands for an endpoint that another becomes by a step
pub record Becomes (Step : Endpoint → Endpoint → Type 0) (e : Endpoint) (after : EndState) : Type 0 where
  pub end : Endpoint
  pub step : Step e end
  pub stands : EndStands after end

-- for every endpoint that the state before stands for, the state after stands for one that it becomes by the step
pub record StepsBy (Step : Endpoint → Endpoint → Type 0) (before after : EndState) : Type 0 where
  pub numbers : SameNumbers before after
  pub becomes : (e : Endpoint) → EndStands before e → Becomes Step e after

-- the same for a step that emits a segment
pub record BecomesEmitting (Step : Endpoint → PlacedSegment → Endpoint → Type 0)
    (before : EndState) (e : Endpoint) (g : Segment) (after : EndState) : Type 0 where
  pub segment : PlacedSegment
  pub end : Endpoint
  pub step : Step e segment end
  pub numbered : Numbered before.send_first.0 before.receive_first.0 g segment
  pub stands : EndStands after end

-- without a segment the endpoint stays as it is
abbrev pub BecomesBy : (Endpoint → PlacedSegment → Endpoint → Type 0) → EndState → Endpoint → Option Segment → EndState → Type 0
BecomesBy Step before e (Some g) after = BecomesEmitting Step before e g after
BecomesBy Step before e None after = EndStands after e

pub record EndEmitsBy (Step : Endpoint → PlacedSegment → Endpoint → Type 0) (before : EndState) (answer : Option Segment) (after : EndState) : Type 0 where
  pub numbers : SameNumbers before after
  pub becomes : (e : Endpoint) → EndStands before e → BecomesBy Step before e answer after

-- The same for a segment that arrives, whatever bytes it has, if its numbers are those of offsets of streams of at most 1 MiB, or of a window at their
-- end.
pub record TakesBy (before : EndState) (g : Segment) (after : EndState) : Type 0 where
  pub numbers : SameNumbers before after
  pub becomes : (e : Endpoint) (p : PlacedSegment) → EndStands before e → Numbered before.receive_first.0 before.send_first.0 g p
      → IsInStreams p → Becomes (λ e' e''. TakesSegment e' p e'') e after
