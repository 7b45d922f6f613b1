use Rattle.std.proofs.Common.{◌≡◌, ◌++◌, take, string_bytes}
use Rattle.std.specs.List.{flat_map, enumerate_from}
use Rattle.show_view.specs.Show.{router_lines}
use Rattle.show_view.proofs.show.push_routers.Given as goal

-- the lines of the routers so far
abbrev pub invariant-loop-index : goal.invariant-loop-index
invariant-loop-index l = string_bytes l.text ≡ string_bytes l.initial.text ++ flat_map (router_lines l.lab) (enumerate_from 0 (take l.index l.routers))
