use Rattle.prefix_trie.specs.Arena.{IsTrieAt}
use Rattle.prefix_trie.specs.Adding.{IsUpper, IsWay}
use Rattle.prefix_trie.proofs.Levels.{left}
use Rattle.prefix_trie.proofs.node.seek.Given as goal

abbrev pub invariant-loop-node : goal.invariant-loop-node
invariant-loop-node l = record {
  trie : IsTrieAt l.nodes l.at;
  way : IsWay l.nodes l.root l.prefix l.above l.at;
  upper : IsUpper l.nodes l.root l.prefix l.grand l.above;
}

abbrev pub decreases-loop-node : goal.decreases-loop-node
decreases-loop-node l = left l.nodes l.at
