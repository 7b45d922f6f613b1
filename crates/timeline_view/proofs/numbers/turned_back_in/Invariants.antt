use Rattle.std.proofs.Common.{◌≡◌, take}
use Rattle.std.specs.List.{flat_map, enumerate_from}
use Rattle.timeline_view.specs.Numbers.{turned_back_at}
use Rattle.timeline_view.proofs.numbers.turned_back_in.Given as goal

-- the grafts so far are those of the arrivals so far
abbrev pub invariant-loop-index : goal.invariant-loop-index
invariant-loop-index l = l.grafts ≡ flat_map (turned_back_at l.left) (enumerate_from 0 (take l.index l.arrived))
