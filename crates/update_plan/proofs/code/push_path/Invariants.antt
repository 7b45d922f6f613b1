use Rattle.std.proofs.Common.{◌≡◌, ◌++◌, take}
use Rattle.std.specs.List.{flat_map}
use Rattle.update_plan.specs.Codes.{part_code}
use Rattle.update_plan.proofs.code.push_path.Given as goal

abbrev pub invariant-loop-part : goal.invariant-loop-part
invariant-loop-part l = l.code.items ≡ l.fn.code.items ++ flat_map part_code (take l.part-index l.path)
