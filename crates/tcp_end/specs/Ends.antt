-- Two ends of a connection over their calls.
use Rattle.std.specs.Prelude.{ℕ, ◌≡◌, ◌⊎◌, List, [], ◌∷◌, ◌++◌, Contains, Option, Some, None}
use Rattle.graft_edge.specs.declared.ids.PeeringId.{PeeringId}
use Rattle.tcp_seq.specs.declared.seq.Seq.{Seq}
use Rattle.tcp_seq.specs.declared.segment.Way.{Way}
use Rattle.tcp_seq.specs.declared.segment.Segment.{Segment}
use Rattle.tcp_seq.specs.declared.state.EndState.{EndState}
use Rattle.tcp_seq.specs.Endpoint.{PlacedSegment, SendsBytes, EmitsNext, EmitsAgain, EmitsAnswer, ReadsBytes}
use Rattle.tcp_seq.specs.Connection.{Connection, fresh_connection, ConnectionStep, ConnectionRun}
use Rattle.tcp_end.specs.State.{fresh_end}
use Rattle.tcp_end.specs.Standing.{EndStands, Numbered, StepsBy, EndEmitsBy, TakesBy}
use Rattle.tcp_end.specs.Emitting.{EmitsPart}

-- an end as contracts see it, and every segment that it ever emitted
pub record EndSide : Type 0 where
  pub state : EndState
  pub emitted : List Segment

pub record EndPair : Type 0 where
  pub near : EndSide
  pub far : EndSide

-- two ends that `End::new` gave, each of which receives what the other sends
abbrev pub fresh_pair : PeeringId → Way → Way → Seq → Seq → EndPair
fresh_pair peering near_way far_way near_first far_first = record {
  near = record { state = fresh_end near_way peering near_first far_first; emitted = [] };
  far = record { state = fresh_end far_way peering far_first near_first; emitted = [] };
}

-- The calls, each by the step that its contract says

abbrev pub CallsSend : EndSide → EndSide → Type 0
CallsSend before after = (bytes : List ℕ) × StepsBy (λ e e'. SendsBytes e bytes e') before.state after.state × (after.emitted ≡ before.emitted)

abbrev pub answer_segments : Option Segment → List Segment
answer_segments None = []
answer_segments (Some segment) = segment ∷ []

-- `next_segment`, `turn`, `answer` or `emit_at`
abbrev pub CallsEmit : EndSide → EndSide → Type 0
CallsEmit before after =
    (answer : Option Segment) × (EndEmitsBy EmitsNext before.state answer after.state
    ⊎ EndEmitsBy EmitsAgain before.state answer after.state ⊎ EndEmitsBy EmitsAnswer before.state answer after.state
    ⊎ ((from : ℕ) × (len : ℕ) × EndEmitsBy (EmitsPart from len) before.state answer after.state))
    × (after.emitted ≡ before.emitted ++ answer_segments answer)

abbrev pub CallsRead : EndSide → EndSide → Type 0
CallsRead before after = (n : ℕ) × StepsBy (λ e e'. ReadsBytes e n e') before.state after.state × (after.emitted ≡ before.emitted)

-- `arrive`, with any segment that the other end ever emitted
abbrev pub CallsArrive : List Segment → EndSide → EndSide → Type 0
CallsArrive theirs before after =
    (segment : Segment) × Contains theirs segment × TakesBy before.state segment after.state × (after.emitted ≡ before.emitted)

-- a call that fails changes nothing, and neither does `export` followed by `import`
abbrev pub EndCalls : List Segment → EndSide → EndSide → Type 0
EndCalls theirs before after = CallsSend before after ⊎ CallsEmit before after ⊎ CallsRead before after ⊎ CallsArrive theirs before after ⊎ (after ≡ before)

abbrev pub PairStep : EndPair → EndPair → Type 0
PairStep before after =
    (EndCalls before.far.emitted before.near after.near × (after.far ≡ before.far))
    ⊎ (EndCalls before.near.emitted before.far after.far × (after.near ≡ before.near))

-- calls from one pair, through those of a list, to the last
abbrev pub PairRun : EndPair → List EndPair → EndPair → Type 0
PairRun before [] after = after ≡ before
PairRun before (next ∷ rest) after = PairStep before next × PairRun next rest after

-- a segment has the numbers and bytes of one of these
pub record IsNumberedAmong (seq_first ack_first : ℕ) (g : Segment) (segments : List PlacedSegment) : Type 0 where
  pub segment : PlacedSegment
  pub there : Contains segments segment
  pub numbered : Numbered seq_first ack_first g segment

-- A pair stands for a connection: each end for its endpoint, and each emitted segment for one of the connection's segments.
pub record PairStands (pair : EndPair) (c : Connection) : Type 0 where
  pub near : EndStands pair.near.state c.near.end
  pub far : EndStands pair.far.state c.far.end
  pub there : pair.far.state.receive_first ≡ pair.near.state.send_first
  pub back : pair.near.state.receive_first ≡ pair.far.state.send_first
  pub near_emitted : (g : Segment) → Contains pair.near.emitted g
      → IsNumberedAmong pair.near.state.send_first.0 pair.near.state.receive_first.0 g c.near.emitted
  pub far_emitted : (g : Segment) → Contains pair.far.emitted g → IsNumberedAmong pair.far.state.send_first.0 pair.far.state.receive_first.0 g c.far.emitted

-- a pair stands for the given connection, or for one that it becomes by a step
pub record PairBecomes (c : Connection) (after : EndPair) : Type 0 where
  pub connection : Connection
  pub step : ConnectionStep c connection ⊎ (connection ≡ c)
  pub stands : PairStands after connection

-- a pair stands for a connection that comes about from two fresh endpoints
pub record PairFollows (pair : EndPair) : Type 0 where
  pub states : List Connection
  pub connection : Connection
  pub run : ConnectionRun fresh_connection states connection
  pub stands : PairStands pair connection
