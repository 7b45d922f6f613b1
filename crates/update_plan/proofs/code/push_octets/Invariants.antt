use Rattle.std.proofs.Common.{◌≡◌, ◌++◌, ◌+◌, take}
use Rattle.std.specs.Prelude.{map}
use Rattle.update_plan.proofs.code.push_octets.Given as goal

abbrev pub invariant-loop-octet : goal.invariant-loop-octet
invariant-loop-octet l = l.code.items ≡ l.fn.code.items ++ map (λ n. n + 1) (take l.octet-index l.octets)
