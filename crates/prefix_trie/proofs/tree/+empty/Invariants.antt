use Rattle.prefix_trie.proofs.Levels.{left}
use Rattle.prefix_trie.proofs.tree.+empty.Given as goal

abbrev pub decreases-empty : goal.decreases-empty
decreases-empty g l = left l.nodes.now l.index
