use Rattle.world_nodes.proofs.EdgeSteps.{RowUpTo}
use Rattle.world_nodes.proofs.edges.add_from.Given as goal

-- the edges to the actors so far
abbrev pub invariant-loop-to : goal.invariant-loop-to
invariant-loop-to l = RowUpTo l.routers l.peerings l.from l.to l.fn.edges.items l.edges.items
