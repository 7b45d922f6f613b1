-- The state that contracts see of an endpoint, and what its fields keep.
use Rattle.std.specs.Prelude.{◌≡◌, ◌+◌, ◌%◌, ◌^◌, length}
use Rattle.tcp_seq.specs.declared.state.EndState.{EndState}
use Rattle.tcp_reasm.specs.Runs.{AreRuns}
use Rattle.tcp_end.specs.State.{IsSending, expected, raised}
use Rattle.tcp_end.specs.declared.end.End.TheInside.{Inside}

-- the pieces ahead of a hole have their offsets in the stream
abbrev pub end_state : Inside → EndState
end_state e = record {
  way = e.way;
  peering = e.peering;
  send_first = e.send_first;
  acked = e.acked;
  sent = e.sent;
  waiting = e.waiting;
  receive_first = e.receive_first;
  taken = e.taken;
  ready = e.ready;
  ahead = raised ((e.taken + length e.ready) % 2 ^ 32) e.ahead.pieces;
  acked_at_turn = e.acked_at_turn;
  owed = e.owed;
}

-- the reassembly expects the number after the received bytes, and has no byte there
pub record EndInvariant (e : Inside) : Type 0 where
  pub sending : IsSending (end_state e)
  pub next : e.ahead.next ≡ expected (end_state e)
  pub runs : AreRuns 1 e.ahead.pieces
