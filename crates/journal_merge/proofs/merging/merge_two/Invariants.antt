use Rattle.std.proofs.Common.{◌≤◌, ◌+◌, ◌-◌, length}
use Rattle.journal_merge.proofs.TwoRuns.{Merging}
use Rattle.journal_merge.proofs.merging.merge_two.Given as goal

abbrev pub invariant-loop-i : goal.invariant-loop-i
invariant-loop-i l = record {
  first : l.i ≤ length l.first;
  second : l.j ≤ length l.second;
  merging : Merging l.first l.second l.i l.j l.merged.items;
}

abbrev pub decreases-loop-i : goal.decreases-loop-i
decreases-loop-i l = (length l.first - l.i) + (length l.second - l.j)
