use Rattle.prefix_trie.proofs.Levels.{left}
use Rattle.prefix_trie.proofs.node.+list.Given as goal

abbrev pub decreases-list : goal.decreases-list
decreases-list g l = left l.nodes.now l.index
