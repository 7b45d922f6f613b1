use Rattle.std.proofs.Common.{take}
use Rattle.ring_net.specs.Shown.{view}
use Rattle.settled_check.specs.Firsts.{IsFirstOf}
use Rattle.world_nodes.specs.Looks.{IsSentOnOne}
use Rattle.world_nodes.proofs.looks.on_its_way.Given as goal

-- the first of the edges so far
abbrev pub invariant-loop-from : goal.invariant-loop-from
invariant-loop-from l = IsFirstOf (IsSentOnOne (view l.net).channel (take l.from-index l.edges)) l.first
