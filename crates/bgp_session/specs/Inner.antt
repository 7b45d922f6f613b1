-- The value of a session's parts, and the invariant that they keep.
use Rattle.std.specs.Prelude.{◌≡◌, ◌≢◌, ℕ, ◌+◌, ◌-◌, ◌^◌, ◌<◌, ◌≤◌, min, max, List, ◌++◌, length, Option, Some, None, Result, All, fold, ◌&&◌, true, false}
use Rattle.std.specs.List.{flat_map}
use Rattle.std.specs.Option.{option_map}
use Rattle.bgp_types.specs.declared.message.Message.{Message}
use Rattle.bgp_types.specs.declared.message.Notice.{Notice}
use Rattle.bgp_types.specs.declared.message.OpenMsg.{OpenMsg}
use Rattle.bgp_types.specs.declared.message.SessionState.{SessionState}
use Rattle.bgp_types.specs.declared.message.SessionState.TheVariants.{Closed}
use Rattle.bgp_types.specs.FirstFault.{message_of}
use Rattle.tcp_seq.specs.declared.segment.Way.TheVariants.{Remote}
use Rattle.tcp_end.specs.Standing.{EndStands}
use Rattle.tcp_end.specs.State.{stream_length}
use Rattle.tcp_end.specs.Whole.{endpoint_of}
use Rattle.bgp_story.specs.declared.line.Line.{Line}
use Rattle.bgp_story.specs.declared.line.Line.TheVariants.{Put, Got, Tick}
use Rattle.bgp_story.specs.Legal.{IsEarlier, IsGot, expected_next, got_open, is_up, reply_at, silence}
use Rattle.bgp_story.specs.Opens.{offers}
use Rattle.bgp_story.specs.Readings.{put_bytes, put_in, got_bytes}
use Rattle.bgp_story.specs.States.{state_of}
use Rattle.session_value.specs.Sessions.{SessionValue, peering_of, hold_time}
use Rattle.session_value.specs.Ties.{IsTied, most_put}
use Rattle.bgp_session.specs.Running.{RunningSession}
use Rattle.bgp_session.specs.Steps.{PassesAgain, TellsRound}
use Rattle.bgp_session.specs.declared.answers.TickStep.{TickStep}
use Rattle.bgp_session.specs.declared.parts.Opened.{Opened}
use Rattle.bgp_session.specs.declared.parts.Parts.{Parts}

-- the session that parts stand for; how much was acknowledged and read isn't in the end, but in the story
abbrev pub value_of : Parts → SessionValue
value_of parts = record {
  config = parts.config;
  story = parts.story.lines;
  adj_rib_in = parts.adj_rib_in;
  adj_rib_out = parts.adj_rib_out;
  end = endpoint_of (put_bytes (peering_of parts.config) parts.story.lines) (got_bytes parts.story.lines) parts.end;
}

abbrev pub running : Parts → RunningSession
running parts = record { session = value_of parts; acked_at_turn = parts.end.acked_at_turn }

-- what the two OPENs settled
abbrev pub opened_by : OpenMsg → OpenMsg → Opened
opened_by first theirs = record { identifier = theirs.identifier; hold = min first.hold theirs.hold; wide = offers first && offers theirs }

abbrev pub hold_of : Option Opened → ℕ
hold_of None = 0
hold_of (Some opened) = opened.hold

-- the least number above those of all rounds that passed
abbrev pub after_line : ℕ → Line → ℕ
after_line n (Put _) = n
after_line n (Got _) = n
after_line n (Tick round) = max n (round + 1)

abbrev pub after_rounds : List Line → ℕ
after_rounds lines = fold after_line 0 lines

-- The end stands for the endpoint, which is tied to the story, and what is kept beside the story agrees with it.
pub record SessionInvariant (parts : Parts) : Type 0 where
  pub stands : EndStands parts.end (value_of parts).end
  pub tied : IsTied (value_of parts)
  pub peering : parts.end.peering ≡ parts.config.peering
  pub way : parts.end.way ≡ Remote
  pub send_first : parts.end.send_first ≡ parts.config.send_first
  pub receive_first : parts.end.receive_first ≡ parts.config.receive_first
  pub send_fits : parts.config.send_first.0 < 2 ^ 32
  pub receive_fits : parts.config.receive_first.0 < 2 ^ 32
  pub remote_as : parts.story.remote_as ≡ parts.config.remote_as
  pub opened : parts.opened ≡ option_map (opened_by (peering_of parts.config).first) (got_open (peering_of parts.config) parts.story.lines)
  -- the rounds that are left until the hold time expires
  pub left : parts.left ≡ hold_time (value_of parts) - silence parts.story.lines
  pub next_round : parts.next_round ≡ after_rounds parts.story.lines

-- ---- what is got

-- what bytes read as, in the session as it is
abbrev pub read_in_session : Parts → List ℕ → Result Message Notice
read_in_session parts bytes = message_of (expected_next (peering_of parts.config) parts.story.lines (state_of parts.story.lines)) bytes

-- The unread bytes begin with a whole message or a faulty header, and the session isn't closed.
pub record AtFront (parts : Parts) (bytes : List ℕ) : Type 0 where
  pub keeps : SessionInvariant parts
  pub unclosed : state_of parts.story.lines ≢ Closed
  pub rest : List ℕ
  pub front : parts.end.ready ≡ bytes ++ rest
  pub got : IsGot bytes

-- ---- rounds

-- the lines that answer a round in the session as it is, and the state after them
abbrev pub round_reply : Parts → ℕ → List Line × SessionState
round_reply parts round = reply_at (hold_time (value_of parts)) (silence parts.story.lines + 1) round (state_of parts.story.lines)

-- A hold time runs, and the round has a number above that of each round that passed.
pub record IsNext (parts : Parts) (round : ℕ) : Type 0 where
  pub up : is_up (state_of parts.story.lines) ≡ true
  pub runs : 0 < hold_time (value_of parts)
  pub later : All (IsEarlier round) parts.story.lines

-- there is room for what the round puts
abbrev pub HasRoomAt : Parts → ℕ → Type 0
HasRoomAt parts round =
    stream_length parts.end + length (flat_map (put_in false) (round_reply parts round).0) ≤ most_put (round_reply parts round).1

-- A round that may pass.
pub record AtRound (parts : Parts) (round : ℕ) : Type 0 where
  pub keeps : SessionInvariant parts
  pub next : IsNext parts round
  pub fits : HasRoomAt parts round

-- what a round did, wherever it had room
pub record PassedBy (step : TickStep) (before : RunningSession) (round : ℕ) (after : RunningSession) : Type 0 where
  pub passes : PassesAgain before.session round after.session
  pub tells : TellsRound step before.session round after.session
  pub same_turn : after.acked_at_turn ≡ before.acked_at_turn
