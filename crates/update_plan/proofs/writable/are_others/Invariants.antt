use Rattle.std.specs.Prelude.{drop, ◌≤◌}
use Rattle.update_plan.proofs.Others.{RiseFrom}
use Rattle.update_plan.proofs.writable.are_others.Given as goal

abbrev pub invariant-loop-other : goal.invariant-loop-other
invariant-loop-other l = record {
  then : RiseFrom l.least (drop l.other-index l.others) → RiseFrom 0 l.others;
  only : RiseFrom 0 l.others → RiseFrom l.least (drop l.other-index l.others);
  small : l.least ≤ 256;
}
