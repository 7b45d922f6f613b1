use Rattle.std.proofs.Common.{sym, ap, ◌∙◌}
use Rattle.std.specs.FinMap as map
use Rattle.bgp_types.proofs.TableLaws.{table_get}
use Rattle.prefix_trie.specs.Trees.{entries}
use Rattle.prefix_trie.specs.Table.{TableValue}
use Rattle.prefix_trie.proofs.Counts.{rising_trie}
use Rattle.prefix_trie.proofs.trie.TrieTableTable.get.Goals as goal

pub returns : goal.returns
returns g c =
    let es = entries c.self.inside.tree in
    c.get.ensures
    ∙ (sym (table_get es (rising_trie c.self.inside.tree c.self.invariant.trie) c.args.prefix)
    ∙ ap (λ (t : TableValue g.row.V.Denot). map.get t.contents c.args.prefix) c.self.view_is)
