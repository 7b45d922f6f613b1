-- Results of the calls of a session, and the cases by which it changes.
use Rattle.std.specs.Prelude.{◌≡◌, ◌⊎◌, ℕ, ◌+◌, ◌<◌, ◌≤◌, List, [], ◌∷◌, ◌++◌, length, All, Option, Some, None, IsSome, Bool, true, false}
use Rattle.std.specs.FinMap as map
use Rattle.bgp_types.specs.declared.message.Message.TheVariants.{UpdateMsg, KeepaliveMsg}
use Rattle.bgp_types.specs.declared.message.OpenMsg.{OpenMsg}
use Rattle.bgp_types.specs.declared.message.SessionState.{SessionState}
use Rattle.bgp_types.specs.declared.message.SessionState.TheVariants as states
use Rattle.bgp_types.specs.declared.message.Update.{Update}
use Rattle.bgp_types.specs.Spelling.{spell}
use Rattle.tcp_seq.specs.declared.segment.Segment.{Segment}
use Rattle.tcp_seq.specs.declared.segment.Way.TheVariants.{Remote}
use Rattle.tcp_seq.specs.declared.seq.Seq.{Seq}
use Rattle.tcp_seq.specs.declared.state.EndState.{EndState}
use Rattle.tcp_seq.specs.Endpoint.{Endpoint, PlacedSegment, IsInStreams, IsAcceptable, IsBeyond, byte_brought, TakesSegment}
use Rattle.tcp_seq.specs.Placed.{placed}
use Rattle.tcp_end.specs.declared.arrival.Arrival.{Arrival}
use Rattle.tcp_end.specs.declared.arrival.Arrival.TheVariants.{Outside, Ahead, Duplicate, Accepted}
use Rattle.tcp_end.specs.Standing.{EndStands}
use Rattle.tcp_end.specs.Whole.{endpoint_of}
use Rattle.bgp_story.specs.declared.line.Line.{Line}
use Rattle.bgp_story.specs.declared.line.Line.TheVariants.{Put, Tick}
use Rattle.bgp_story.specs.Legal.{IsEarlier, got_open, is_up, is_wide, reply_at, silence}
use Rattle.bgp_story.specs.Readings.{got_bytes, unless_closed}
use Rattle.adj_rib.specs.Changes.{Changed as ChangedRoutes}
use Rattle.session_value.specs.declared.config.SessionConfig.{SessionConfig}
use Rattle.session_value.specs.Sessions.{SessionValue, peering_of, state, hold_time}
use Rattle.session_value.specs.Cases.{GetsFrame, PassesRound, put_by, sending}
use Rattle.session_value.specs.Ties.{IsTied, most_put}
use Rattle.bgp_session.specs.Running.{RunningSession}
use Rattle.bgp_session.specs.Fronts.{CantRead}
use Rattle.bgp_session.specs.declared.answers.ReadStep.{ReadStep}
use Rattle.bgp_session.specs.declared.answers.ReadStep.TheVariants.{Opened, Established, Changed, Closed}
use Rattle.bgp_session.specs.declared.answers.TickStep.{TickStep}
use Rattle.bgp_session.specs.declared.answers.TickStep.TheVariants.{Plain, Beat, Expired}

-- ---- what is read

-- The result for a message, or a faulty header, that a session got: the states before and after it, and the prefixes whose routes changed, or those
-- that had routes when the session closed, in ascending order.
abbrev pub TellsRead : ReadStep → SessionValue → SessionValue → Type 0
TellsRead Opened before after = (state before ≡ states.OpenSent) × (state after ≡ states.OpenConfirm)
TellsRead Established before after = (state before ≡ states.OpenConfirm) × (state after ≡ states.Established)
TellsRead (Changed prefixes) before after =
    (state before ≡ states.Established) × (state after ≡ states.Established) × ChangedRoutes before.adj_rib_in after.adj_rib_in prefixes
TellsRead (Closed prefixes) before after = (state after ≡ states.Closed) × (prefixes ≡ map.keys before.adj_rib_in)

pub record ReadsFrame (step : ReadStep) (before after : RunningSession) : Type 0 where
  pub bytes : List ℕ
  pub gets : GetsFrame before.session bytes after.session
  pub tells : TellsRead step before.session after.session
  pub same_turn : after.acked_at_turn ≡ before.acked_at_turn

-- One message or faulty header is got. None exactly where the session is closed or the unread bytes begin with neither; then nothing changes.
abbrev pub ReadsFrameIfAny : Option ReadStep → RunningSession → RunningSession → Type 0
ReadsFrameIfAny None before after = CantRead before.session × (after ≡ before)
ReadsFrameIfAny (Some step) before after = ReadsFrame step before after

-- ---- rounds

-- A round of this number may pass: in OpenConfirm or Established, while a hold time runs, with a number above that of each round that passed, and
-- with room for a KEEPALIVE of 19 bytes and a NOTIFICATION after it.
pub record MayPass (session : SessionValue) (round : ℕ) : Type 0 where
  pub up : is_up (state session) ≡ true
  pub runs : 0 < hold_time session
  pub later : All (IsEarlier round) session.story
  pub room : length session.end.stream ≤ 1044461

-- the result for a round: what it put
abbrev pub TellsRound : TickStep → SessionValue → ℕ → SessionValue → Type 0
TellsRound Plain before round after = after.story ≡ before.story ++ Tick round ∷ []
TellsRound Beat before round after = after.story ≡ before.story ++ Tick round ∷ Put KeepaliveMsg ∷ []
TellsRound (Expired prefixes) before round after = (state after ≡ states.Closed) × (prefixes ≡ map.keys before.adj_rib_in)

pub record SessionTicks (step : TickStep) (before : RunningSession) (round : ℕ) (after : RunningSession) : Type 0 where
  pub passes : PassesRound before.session round after.session
  pub tells : TellsRound step before.session round after.session
  pub same_turn : after.acked_at_turn ≡ before.acked_at_turn

-- ---- what is put and emitted

-- the length of the stream with an UPDATE at its end
abbrev pub offered_length : SessionValue → Update → ℕ
offered_length session update = length session.end.stream + length (spell (UpdateMsg update) (is_wide (peering_of session.config) session.story))

-- the segment by offsets in the two streams that a segment sent by a session stands for
abbrev pub sent_as : SessionConfig → Segment → PlacedSegment
sent_as config segment = placed config.send_first.0 config.receive_first.0 segment

-- the segment by offsets that an arriving segment stands for
abbrev pub received_as : SessionConfig → Segment → PlacedSegment
received_as config segment = placed config.receive_first.0 config.send_first.0 segment

-- The endpoint makes a step that emits what this segment stands for, on the way to the remote and with a window of 16,384.
pub record SessionEmits (Step : Endpoint → PlacedSegment → Endpoint → Type 0) (before : SessionValue) (segment : Segment) (after : SessionValue) : Type 0 where
  pub end : Endpoint
  pub step : Step before.end (sent_as before.config segment) end
  pub in_streams : IsInStreams (sent_as before.config segment)
  pub peering : segment.peering ≡ before.config.peering
  pub way : segment.way ≡ Remote
  pub window : segment.window ≡ 16384
  pub effect : after ≡ record before { end = end }

-- with no segment the session stays as it is
abbrev pub SessionEmitsIfAny : (Endpoint → PlacedSegment → Endpoint → Type 0) → SessionValue → Option Segment → SessionValue → Type 0
SessionEmitsIfAny Step before None after = after ≡ before
SessionEmitsIfAny Step before (Some segment) after = SessionEmits Step before segment after

-- ---- what arrives

-- a segment brings a byte for an offset that has none yet
pub record BringsTo (e : Endpoint) (segment : PlacedSegment) : Type 0 where
  pub offset : ℕ
  pub empty : map.get e.arrived offset ≡ None
  pub some : IsSome (byte_brought e segment offset)

-- what an arriving segment is to an endpoint (RFC 9293, section 3.10.7.4)
abbrev pub ArrivesAs : Arrival → Endpoint → PlacedSegment → Seq → Type 0
ArrivesAs Outside e segment ack = ¬ IsAcceptable e segment
ArrivesAs (Ahead told) e segment ack = IsAcceptable e segment × IsBeyond e segment × (told ≡ ack)
ArrivesAs Duplicate e segment ack = IsAcceptable e segment × (¬ IsBeyond e segment) × (segment.ack ≤ e.acked) × (¬ BringsTo e segment)
ArrivesAs Accepted e segment ack = IsAcceptable e segment × (¬ IsBeyond e segment) × ((e.acked < segment.ack) ⊎ BringsTo e segment)

-- The endpoint takes what this segment stands for.
pub record SegmentArrives (arrival : Arrival) (before : RunningSession) (segment : Segment) (after : RunningSession) : Type 0 where
  pub is : ArrivesAs arrival before.session.end (received_as before.session.config segment) segment.ack
  pub end : Endpoint
  pub takes : TakesSegment before.session.end (received_as before.session.config segment) end
  pub effect : after ≡ record before { session = record before.session { end = end } }

-- ---- looks

-- the OPEN of the remote, once it was received
abbrev pub remote_open : SessionValue → Option OpenMsg
remote_open session = got_open (peering_of session.config) session.story

abbrev pub identifier_of : OpenMsg → ℕ
identifier_of theirs = theirs.identifier

-- ---- a session that is made again

-- the session with an end of this state
abbrev pub with_end : SessionValue → EndState → RunningSession
with_end session end = record {
  session = record session { end = endpoint_of session.end.stream (got_bytes session.story) end };
  acked_at_turn = end.acked_at_turn;
}

-- The state is that of an end of the session's connection, and with this end the session is tied to its story.
pub record IsEndFor (session : SessionValue) (end : EndState) : Type 0 where
  pub peering : end.peering ≡ session.config.peering
  pub way : end.way ≡ Remote
  pub send_first : end.send_first ≡ session.config.send_first
  pub receive_first : end.receive_first ≡ session.config.receive_first
  pub stands : EndStands end (with_end session end).session.end
  pub tied : IsTied (with_end session end).session

-- A round passes as in `PassesRound`, but only what it puts needs room.
pub record PassesAgain (before : SessionValue) (round : ℕ) (after : SessionValue) : Type 0 where
  pub up : is_up (state before) ≡ true
  pub runs : 0 < hold_time before
  pub later : All (IsEarlier round) before.story
  pub answer : List Line
  pub next : SessionState
  pub reply : reply_at (hold_time before) (silence before.story + 1) round (state before) ≡ (answer, next)
  pub fits : length before.end.stream + length (put_by before (before.story ++ Tick round ∷ answer) answer) ≤ most_put next
  pub effect : after ≡ record before {
    story = before.story ++ Tick round ∷ answer;
    adj_rib_in = unless_closed next before.adj_rib_in;
    adj_rib_out = unless_closed next before.adj_rib_out;
    end = sending (put_by before (before.story ++ Tick round ∷ answer) answer) before.end;
  }

-- The round passes. False exactly where no such round may pass; then nothing changes.
abbrev pub PassesIfItMay : Bool → RunningSession → ℕ → RunningSession → Type 0
PassesIfItMay true before round after = PassesAgain before.session round after.session × (after.acked_at_turn ≡ before.acked_at_turn)
PassesIfItMay false before round after = (after ≡ before) × ((next : SessionValue) → ¬ PassesAgain before.session round next)
