use Rattle.std.proofs.Common.{map, take}
use Rattle.ring_net.specs.Shown.{view}
use Rattle.settled_check.specs.Firsts.{IsFirstOf}
use Rattle.world_nodes.specs.Nodes.{own}
use Rattle.world_nodes.specs.Looks.{IsLeftToOne}
use Rattle.world_nodes.proofs.looks.left_up_to.Given as goal

-- the first thing for the actors so far
abbrev pub invariant-loop-k : goal.invariant-loop-k
invariant-loop-k l = IsFirstOf (IsLeftToOne (take l.k (map own (view l.net).actors))) l.first
