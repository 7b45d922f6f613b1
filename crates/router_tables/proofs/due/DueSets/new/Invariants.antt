use Rattle.std.proofs.Common.{◌≡◌, replicate}
use Rattle.std.specs.FinMap as map
use Rattle.router_tables.proofs.due.DueSets.new.Given as goal

-- so many sets, and each is empty
abbrev pub invariant-loop-n : goal.invariant-loop-n
invariant-loop-n l = l.sets.items ≡ replicate l._n map.empty
