use Rattle.std.proofs.Common.{◌≡◌, max, fold, take}
use Rattle.audit_clocks.proofs.clocks.greatest.Given as goal

-- the greatest of the first clocks
abbrev pub invariant-loop-clock : goal.invariant-loop-clock
invariant-loop-clock l = l.greatest ≡ fold max 0 (take l.clock-index l.clocks)
