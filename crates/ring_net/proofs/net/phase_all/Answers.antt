use Rattle.std.proofs.Common.{sym, ◌∙◌}
use Rattle.ring_net.proofs.NetPhases.{phase_done, net_after, linked_after}
use Rattle.ring_net.specs.Phases.{NetPhase}
use Rattle.ring_net.specs.Nets.{view_of}
use Rattle.ring_net.proofs.Order.{order_phase}
use Rattle.ring_net.proofs.net.phase_all.Goals as goal

pub read_all-requires : goal.read_all-requires
read_all-requires g c = linked_after g.A.Actor.part g.A.Actor.makes g.A.Actor.took g.A.Actor.turned
    c.args.cells.now c.turn_all.new.cells c.args.edges.now c.turn_all.auto.cells c.requires.net c.turn_all.ensures

pub returns-then-any_failed-clause-net : goal.returns-then-any_failed-clause-net
returns-then-any_failed-clause-net g c = net_after g.A.Actor.part g.A.Actor.makes g.A.Actor.took g.A.Actor.turned c.args.cells.now c.turn_all.new.cells
    c.read_all.new.cells c.args.edges.now c.turn_all.auto.cells c.requires.net c.turn_all.ensures c.read_all.ensures.looked c.read_all.ensures.level

pub returns-clause-net : goal.returns-clause-net
returns-clause-net g c = net_after g.A.Actor.part g.A.Actor.makes g.A.Actor.took g.A.Actor.turned c.args.cells.now c.turn_all.new.cells
    c.read_all.new.cells c.args.edges.now c.turn_all.auto.cells c.requires.net c.turn_all.ensures c.read_all.ensures.looked c.read_all.ensures.level

pub returns-clause-phase : goal.returns-clause-phase
returns-clause-phase g c = phase_done g.A.Actor.part g.A.Actor.makes g.A.Actor.took g.A.Actor.turned c.args.cells.now
    c.turn_all.new.cells c.read_all.new.cells c.args.edges.now c.turn_all.auto.cells c.read_all.auto.cells c.requires.net
    c.turn_all.ensures c.read_all.ensures.looked c.read_all.ensures.level (sym c.any_failed.ensures ∙ c.if-any_failed.false)

pub returns-clause-order : goal.returns-clause-order
returns-clause-order g c =
    let done : NetPhase g.A.Actor.part g.A.Actor.makes g.A.Actor.took g.A.Actor.turned (view_of c.args.cells.now c.args.edges.now)
    (view_of c.read_all.new.cells c.args.edges.now) = phase_done g.A.Actor.part g.A.Actor.makes g.A.Actor.took g.A.Actor.turned
    c.args.cells.now c.turn_all.new.cells c.read_all.new.cells c.args.edges.now c.turn_all.auto.cells c.read_all.auto.cells c.requires.net
    c.turn_all.ensures c.read_all.ensures.looked c.read_all.ensures.level (sym c.any_failed.ensures ∙ c.if-any_failed.false) in
    order_phase g.A.Actor.part g.A.Actor.makes g.A.Actor.took g.A.Actor.turned
    (view_of c.args.cells.now c.args.edges.now) (view_of c.read_all.new.cells c.args.edges.now) done c.requires.order
