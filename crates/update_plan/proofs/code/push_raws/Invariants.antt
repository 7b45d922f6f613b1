use Rattle.std.proofs.Common.{◌≡◌, ◌++◌, take}
use Rattle.std.specs.List.{flat_map}
use Rattle.update_plan.specs.Codes.{raw_code}
use Rattle.update_plan.proofs.code.push_raws.Given as goal

abbrev pub invariant-loop-raw : goal.invariant-loop-raw
invariant-loop-raw l = l.code.items ≡ l.fn.code.items ++ flat_map raw_code (take l.raw-index l.raws)
