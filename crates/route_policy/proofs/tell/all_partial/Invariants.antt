use Rattle.std.proofs.Common.{◌≡◌, ◌++◌, map, take, drop}
use Rattle.route_policy.specs.Telling.{made_partial}
use Rattle.route_policy.proofs.tell.all_partial.Given as goal

abbrev pub invariant-loop-raw : goal.invariant-loop-raw
invariant-loop-raw l = l.raw-items ≡ map made_partial (take l.raw-index l.fn.unknown) ++ drop l.raw-index l.fn.unknown
