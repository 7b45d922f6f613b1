use Rattle.std.proofs.Common.{flat_map, length}
use Rattle.std.specs.Prelude.{IsPermutation}
use Rattle.journal_merge.specs.Merges.{AllOrdered}
use Rattle.journal_merge.proofs.merging.merge_all.Given as goal

abbrev pub invariant-loop-runs : goal.invariant-loop-runs
invariant-loop-runs l = record {
  all : IsPermutation (flat_map (λ run. run) l.initial.runs.items) (flat_map (λ run. run) l.runs.items);
  order : AllOrdered l.runs.items;
}

abbrev pub decreases-loop-runs : goal.decreases-loop-runs
decreases-loop-runs l = length l.runs.items
