use Rattle.std.proofs.Common.{◌≡◌, take, map}
use Rattle.node_configs.specs.Orders.{script_order}
use Rattle.node_configs.proofs.script.orders_of.Given as goal

abbrev pub invariant-loop-step : goal.invariant-loop-step
invariant-loop-step l = l.orders ≡ map script_order (take l.step-index l.steps)
