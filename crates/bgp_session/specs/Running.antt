-- A running session: its value, and what only it knows.
use Rattle.std.specs.Prelude.{ℕ}
use Rattle.session_value.specs.Sessions.{SessionValue}

-- the session, and how much of its stream was acknowledged at its last retransmission turn, by which it tells whether to emit again
pub record RunningSession : Type 0 where
  pub session : SessionValue
  pub acked_at_turn : ℕ

-- the session that a capsule carries
abbrev pub carried : RunningSession → SessionValue
carried capsule = capsule.session
