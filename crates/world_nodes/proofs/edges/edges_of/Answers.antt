use Rattle.std.proofs.Common.{◌≡◌, ◌+◌, subst, arith}
use Rattle.world_nodes.proofs.EdgeSteps.{RowsUpTo, rows_more, rows_all}
use Rattle.world_nodes.proofs.edges.edges_of.Goals as goal

pub loop-from-preserved : goal.loop-from-preserved
loop-from-preserved c = rows_more c.args.routers c.args.peerings c.loop-from.from c.loop-from.edges.items c.add_from.new.edges.items
    c.in_ok-add_from.ensures.sound c.in_ok-add_from.ensures.none c.in_ok-add_from.ensures.added c.loop-from.invariant

pub returns-clause-each : goal.returns-clause-each
returns-clause-each c =
    let all : c.loop-from.from ≡ c.args.routers + c.args.peerings + 1 = omega arith in
    rows_all c.args.routers c.args.peerings c.loop-from.edges.items
    (subst (λ n. RowsUpTo c.args.routers c.args.peerings n c.loop-from.edges.items) all c.loop-from.invariant)
