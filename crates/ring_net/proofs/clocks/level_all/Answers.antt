use Rattle.ring_net.proofs.ClockLaws.{levelled, net_keeps, keeps_level}
use Rattle.ring_net.specs.Nets.{view_of}
use Rattle.ring_net.proofs.Order.{order_level}
use Rattle.ring_net.proofs.clocks.level_all.Goals as goal

pub returns-clause-net : goal.returns-clause-net
returns-clause-net g c = λ edges net.
    net_keeps c.args.cells.now c.level_clocks.new.cells edges (keeps_level c.args.cells.now c.level_clocks.new.cells c.level_clocks.ensures) net

pub returns-clause-level : goal.returns-clause-level
returns-clause-level g c = λ edges. levelled c.args.cells.now c.level_clocks.new.cells edges c.level_clocks.ensures

pub returns-clause-order : goal.returns-clause-order
returns-clause-order g c = λ edges. order_level (view_of c.args.cells.now edges) (view_of c.level_clocks.new.cells edges)
    (levelled c.args.cells.now c.level_clocks.new.cells edges c.level_clocks.ensures)
