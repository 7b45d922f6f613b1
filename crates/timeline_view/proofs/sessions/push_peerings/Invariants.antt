use Rattle.std.proofs.Common.{◌≡◌, ◌++◌, take, string_bytes}
use Rattle.std.specs.List.{flat_map, enumerate_from}
use Rattle.timeline_view.specs.Sessions.{peering_session_line}
use Rattle.timeline_view.proofs.sessions.push_peerings.Given as goal

-- the text so far is that of the peerings so far
abbrev pub invariant-loop-index : goal.invariant-loop-index
invariant-loop-index l = string_bytes l.text ≡ string_bytes l.initial.text
    ++ flat_map (peering_session_line l.sessions) (enumerate_from 0 (take l.index l.peerings))
