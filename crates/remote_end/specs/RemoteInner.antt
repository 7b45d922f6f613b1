-- The value of a remote, and the invariant of its fields.
use Rattle.std.specs.Prelude.{◌≡◌, ◌<◌, ◌^◌, []}
use Rattle.tcp_seq.specs.declared.segment.Way.TheVariants.{Home}
use Rattle.tcp_end.specs.Standing.{EndStands}
use Rattle.tcp_end.specs.Whole.{endpoint_of}
use Rattle.remote_end.specs.Remotes.{RemoteValue}
use Rattle.remote_end.specs.declared.remote.Remote.TheInside.{Inside}

-- it reads none of the bytes that it received
abbrev pub remote_of : Inside → RemoteValue
remote_of r = record {
  end = endpoint_of r.said [] r.end;
  at_turn = r.end.acked_at_turn;
  peering = r.end.peering.0;
  send_first = r.send_first.0;
  receive_first = r.receive_first.0;
}

pub record RemoteInvariant (r : Inside) : Type 0 where
  pub stands : EndStands r.end (endpoint_of r.said [] r.end)
  pub unread : r.end.taken ≡ 0
  pub way : r.end.way ≡ Home
  pub sends : r.end.send_first ≡ r.send_first
  pub receives : r.end.receive_first ≡ r.receive_first
  pub send_fits : r.send_first.0 < 2 ^ 32
  pub receive_fits : r.receive_first.0 < 2 ^ 32
