use Rattle.prefix_trie.proofs.Levels.{left}
use Rattle.prefix_trie.proofs.node.+first.Given as goal

abbrev pub decreases-first : goal.decreases-first
decreases-first g l = left l.nodes.now l.index
