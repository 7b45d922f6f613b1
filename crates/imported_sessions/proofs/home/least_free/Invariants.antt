use Rattle.std.proofs.Common.{◌≡◌, ℕ, ◌^◌, ◌-◌, ◌<◌, ◌≤◌, true}
use Rattle.std.specs.BTreeSet.{contains}
use Rattle.std.specs.Ordering.{nat_cmp}
use Rattle.imported_sessions.proofs.home.least_free.Given as goal

abbrev pub invariant-loop-free : goal.invariant-loop-free
invariant-loop-free l = record {
  from : 64512 ≤ l.free;
  taken : (b : ℕ) → 64512 ≤ b → b < l.free → contains nat_cmp l.taken b ≡ true;
}

abbrev pub decreases-loop-free : goal.decreases-loop-free
decreases-loop-free l = 2 ^ 32 - l.free
