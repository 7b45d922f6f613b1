use Rattle.std.proofs.Common.{◌≡◌, map}
use Rattle.std.specs.List.{range_with_len}
use Rattle.lab_setup.specs.Setups.{cost_from}
use Rattle.node_configs.proofs.router.costs_of.Given as goal

abbrev pub invariant-loop-to : goal.invariant-loop-to
invariant-loop-to l = l.costs ≡ map (cost_from l.input.costs l.from) (range_with_len 0 l.to)
