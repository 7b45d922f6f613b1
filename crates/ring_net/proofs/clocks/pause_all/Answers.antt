use Rattle.ring_net.proofs.ClockLaws.{net_keeps, between, length-map}
use Rattle.std.proofs.Common.{arith}
use Rattle.ring_net.specs.Nets.{view_of}
use Rattle.ring_net.specs.declared.cell.Cell.{Cell}
use Rattle.ring_net.proofs.Order.{order_between}
use Rattle.ring_net.proofs.clocks.pause_all.Goals as goal

pub returns-clause-net : goal.returns-clause-net
returns-clause-net g c = λ edges net. net_keeps c.args.cells.now c.pause_at.new.cells edges c.pause_at.ensures.kept net

pub returns-clause-pauses : goal.returns-clause-pauses
returns-clause-pauses g c = λ edges net. between g.A.Actor.part g.A.Actor.makes g.A.Actor.paused c.args.k
    c.args.cells.now c.pause_at.new.cells edges c.in_ok-answer.answer net c.requires c.in_ok-answer.ensures.pauses

pub returns-clause-order : goal.returns-clause-order
returns-clause-order g c = λ edges net. order_between g.A.Actor.part g.A.Actor.makes g.A.Actor.paused c.args.k
    (view_of c.args.cells.now edges) (view_of c.pause_at.new.cells edges) c.in_ok-answer.answer
    (omega (arith, c.requires, length-map (λ (z : Cell _ _). z.actor) c.args.cells.now))
    (between g.A.Actor.part g.A.Actor.makes g.A.Actor.paused c.args.k c.args.cells.now
    c.pause_at.new.cells edges c.in_ok-answer.answer net c.requires c.in_ok-answer.ensures.pauses)
