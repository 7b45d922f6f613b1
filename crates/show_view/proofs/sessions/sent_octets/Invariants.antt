use Rattle.std.proofs.Common.{◌≡◌, ◌-◌, ◌*◌, ◌^◌, ◌≤◌, take}
use Rattle.show_view.specs.Sessions.{sent_octets}
use Rattle.show_view.proofs.sessions.sent_octets.Given as goal

-- the octets of the lines so far, each line with less than 2^64
abbrev pub invariant-loop-line : goal.invariant-loop-line
invariant-loop-line l =
    record {
      so_far : l.octets ≡ sent_octets l.wide (take l.line-index l.lines);
      fits : l.octets ≤ l.line-index * (2 ^ 64 - 1);
    }
