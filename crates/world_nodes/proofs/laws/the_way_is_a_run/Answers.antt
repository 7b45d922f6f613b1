use Rattle.bgp_session.specs.Running.{carried}
use Rattle.world_nodes.specs.Nodes.{own}
use Rattle.world_nodes.proofs.WayRuns.{way_ran, way_ordered}
use Rattle.world_nodes.proofs.laws.the_way_is_a_run.Goals as goal

pub returns-clause-run : goal.returns-clause-run
returns-clause-run c = way_ran (c.nets_run.ensures.new own carried) (c.nets_run.ensures.phases own carried)
    (c.nets_run.ensures.go own carried) c.pieces_grow.ensures c.phases_grow.ensures c.marks_grow.ensures.level
    c.marks_grow.ensures.between

pub returns-clause-order : goal.returns-clause-order
returns-clause-order c = way_ordered (c.nets_run.ensures.new own carried) (c.nets_run.ensures.phases own carried)
    (c.nets_run.ensures.go own carried) c.pieces_grow.ensures c.phases_grow.ensures c.marks_grow.ensures.level
    c.marks_grow.ensures.between
