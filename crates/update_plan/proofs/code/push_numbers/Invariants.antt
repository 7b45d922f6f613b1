use Rattle.std.proofs.Common.{◌≡◌, ◌++◌, ◌+◌, take}
use Rattle.std.specs.Prelude.{map}
use Rattle.update_plan.proofs.code.push_numbers.Given as goal

abbrev pub invariant-loop-number : goal.invariant-loop-number
invariant-loop-number l = l.code.items ≡ l.fn.code.items ++ map (λ n. n + 1) (take l.number-index l.numbers)
