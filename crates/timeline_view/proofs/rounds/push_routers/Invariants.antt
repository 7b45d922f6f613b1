use Rattle.std.proofs.Common.{◌≡◌, ◌++◌, take, string_bytes}
use Rattle.std.specs.List.{flat_map, enumerate_from}
use Rattle.timeline_view.specs.Rounds.{router_line}
use Rattle.timeline_view.proofs.rounds.push_routers.Given as goal

-- the text so far is that of the members so far
abbrev pub invariant-loop-index : goal.invariant-loop-index
invariant-loop-index l = string_bytes l.text ≡ string_bytes l.initial.text ++ flat_map (router_line l.round l.here) (enumerate_from 0 (take l.index l.routers))
