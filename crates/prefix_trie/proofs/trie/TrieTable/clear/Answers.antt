use Rattle.std.proofs.Common.{[], ap, ◌∙◌}
use Rattle.std.specs.FinMap as map
use Rattle.bgp_types.specs.Tables.{prefix_cmp}
use Rattle.bgp_types.proofs.TableLaws.{table_len}
use Rattle.prefix_trie.proofs.trie.TrieTable.clear.Goals as goal

pub returns-clause-contents : goal.returns-clause-contents
returns-clause-contents g c =
    ap (map.from_sorted {R = prefix_cmp}) c.clear.ensures.none
    ∙ map.empty_of_len _ (table_len [] tt)
