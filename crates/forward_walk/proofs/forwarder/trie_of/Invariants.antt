use Rattle.std.proofs.Common.{◌≡◌, map, reverse}
use Rattle.forward_walk.specs.Tables.{map_of}
use Rattle.forward_walk.proofs.forwarder.trie_of.Given as goal

abbrev pub invariant-loop-entry : goal.invariant-loop-entry
invariant-loop-entry l = l.trie.contents ≡ map_of (reverse (map (λ x. x.now) l.yielded))
