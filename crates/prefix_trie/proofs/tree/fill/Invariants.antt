use Rattle.std.proofs.Common.{◌-◌, ◌≤◌, length}
use Rattle.prefix_trie.specs.Trees.{IsGrown, IsTrie}
use Rattle.prefix_trie.proofs.tree.fill.Given as goal

abbrev pub invariant-loop-tree : goal.invariant-loop-tree
invariant-loop-tree g l = record {
  trie : IsTrie l.tree;
  grown : IsGrown l.initial.tree l.tree;
  more : length l.initial.tree.free.items ≤ length l.tree.free.items;
}

abbrev pub decreases-loop-tree : goal.decreases-loop-tree
decreases-loop-tree g l = l.count - length l.tree.free.items
