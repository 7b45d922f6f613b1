use Rattle.std.proofs.Common.{◌≡◌, length}
use Rattle.ring_net.proofs.looks.loads.Given as goal

-- a load for each cell so far
abbrev pub invariant-loop-k : goal.invariant-loop-k
invariant-loop-k g l = length l.loads.items ≡ l.k
