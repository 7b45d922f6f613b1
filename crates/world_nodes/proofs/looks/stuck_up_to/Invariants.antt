use Rattle.std.proofs.Common.{map, take}
use Rattle.ring_net.specs.Shown.{view}
use Rattle.world_nodes.specs.Nodes.{own}
use Rattle.world_nodes.specs.Looks.{IsLowest, IsStuckAtOne, as_numbers}
use Rattle.world_nodes.proofs.looks.stuck_up_to.Given as goal

-- the lowest of the actors so far
abbrev pub invariant-loop-k : goal.invariant-loop-k
invariant-loop-k l = IsLowest (IsStuckAtOne (take l.k (map own (view l.net).actors))) (as_numbers l.lowest)
