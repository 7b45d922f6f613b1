use Rattle.std.proofs.Common.{sym, ap, ◌∙◌}
use Rattle.std.specs.FinMap as map
use Rattle.bgp_types.proofs.TableLaws.{table_len}
use Rattle.prefix_trie.specs.Trees.{entries}
use Rattle.prefix_trie.specs.Table.{TableValue}
use Rattle.prefix_trie.proofs.Counts.{rising_trie}
use Rattle.prefix_trie.proofs.trie.TrieTableTable.len.Goals as goal

pub returns : goal.returns
returns g c =
    let es = entries c.self.inside.tree in
    c.self.invariant.len
    ∙ (sym (table_len es (rising_trie c.self.inside.tree c.self.invariant.trie)) ∙ ap (λ (t : TableValue g.row.V.Denot). map.len t.contents) c.self.view_is)
