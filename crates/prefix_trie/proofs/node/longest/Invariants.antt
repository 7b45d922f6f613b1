use Rattle.prefix_trie.specs.Arena.{entries_at, IsTrieAt}
use Rattle.prefix_trie.proofs.Longests.{Walk}
use Rattle.prefix_trie.proofs.Levels.{left}
use Rattle.prefix_trie.proofs.node.longest.Given as goal

abbrev pub invariant-loop-node : goal.invariant-loop-node
invariant-loop-node g l = record {
  trie : IsTrieAt l.nodes l.at;
  walk : Walk l.host (entries_at l.nodes l.values l.root) (entries_at l.nodes l.values l.at) l.longest;
}

abbrev pub decreases-loop-node : goal.decreases-loop-node
decreases-loop-node g l = left l.nodes l.at
