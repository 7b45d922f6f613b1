use Rattle.std.proofs.Common.{ℕ}
use Rattle.std.specs.List.{Contains}
use Rattle.prefix_trie.specs.Arena.{indices_at, HasNone, IsTrieAt}
use Rattle.prefix_trie.proofs.Levels.{left}
use Rattle.prefix_trie.proofs.node.find.Given as goal

abbrev pub invariant-loop-node : goal.invariant-loop-node
invariant-loop-node l = record {
  trie : IsTrieAt l.nodes l.at;
  inside : (q : ℕ) → Contains (indices_at l.nodes l.at) q → Contains (indices_at l.nodes l.root) q;
  absent : HasNone l.nodes l.at l.prefix → HasNone l.nodes l.root l.prefix;
}

abbrev pub decreases-loop-node : goal.decreases-loop-node
decreases-loop-node l = left l.nodes l.at
