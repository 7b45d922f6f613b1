use Rattle.prefix_trie.proofs.Levels.{left}
use Rattle.prefix_trie.proofs.node.+next.Given as goal

abbrev pub decreases-next : goal.decreases-next
decreases-next g l = left l.nodes.now l.index
