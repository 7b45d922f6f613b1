use Rattle.std.proofs.Common.{refl}
use Rattle.prefix_trie.proofs.Grown.{same_trie, taken_trie}
use Rattle.prefix_trie.proofs.tree.reserve.Goals as goal

pub returns-in_err-reserve-clause-trie : goal.returns-in_err-reserve-clause-trie
returns-in_err-reserve-clause-trie g c = same_trie c.args.tree.now _ c.requires refl c.reserve.ensures.items refl refl

pub returns-in_err-reserve-2-clause-trie : goal.returns-in_err-reserve-2-clause-trie
returns-in_err-reserve-2-clause-trie g c = same_trie c.args.tree.now _ c.requires refl c.reserve.ensures.items c.reserve-2.ensures.items refl

pub returns-in_err-reserve-3-clause-trie : goal.returns-in_err-reserve-3-clause-trie
returns-in_err-reserve-3-clause-trie g c =
    same_trie c.args.tree.now _ c.requires refl c.reserve.ensures.items c.reserve-2.ensures.items c.reserve-3.ensures.items

pub fill-requires : goal.fill-requires
fill-requires g c = same_trie c.args.tree.now _ c.requires refl c.reserve.ensures.items c.reserve-2.ensures.items c.reserve-3.ensures.items

pub returns-in-Err-clause-trie : goal.returns-in-Err-clause-trie
returns-in-Err-clause-trie g c = taken_trie c.fill.new.tree _ c.fill.ensures.trie refl refl refl c.len-before.result c.truncate.ensures.items
