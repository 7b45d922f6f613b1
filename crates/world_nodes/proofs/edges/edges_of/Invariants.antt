use Rattle.world_nodes.proofs.EdgeSteps.{RowsUpTo}
use Rattle.world_nodes.proofs.edges.edges_of.Given as goal

-- the edges from the actors so far
abbrev pub invariant-loop-from : goal.invariant-loop-from
invariant-loop-from l = RowsUpTo l.routers l.peerings l.from l.edges.items
