use Rattle.std.proofs.Common.{[], length, refl, sym, ap, ◌∙◌}
use Rattle.std.specs.FinMap as map
use Rattle.bgp_types.specs.Tables.{prefix_cmp}
use Rattle.bgp_types.proofs.TableLaws.{table_len}
use Rattle.prefix_trie.specs.Arena.{nowhere}
use Rattle.prefix_trie.specs.declared.tree.Tree.{Tree}
use Rattle.prefix_trie.proofs.Grown.{no_entries, bare_trie}
use Rattle.prefix_trie.proofs.trie.TrieTable.new.Goals as goal

pub invariant_of-result : goal.invariant_of-result
invariant_of-result g c =
    let t : Tree g.row.V.Denot = record { nodes = c.new.result; values = c.new-2.result; free = c.new-3.result; root = nowhere } in
    record {
      trie = bare_trie t refl c.new.ensures.items c.new-2.ensures.items c.new-3.ensures.items;
      len = sym (ap length (no_entries t refl c.new.ensures.items));
    }

pub returns-clause-contents : goal.returns-clause-contents
returns-clause-contents g c =
    let t : Tree g.row.V.Denot = record { nodes = c.new.result; values = c.new-2.result; free = c.new-3.result; root = nowhere } in
    ap (map.from_sorted {R = prefix_cmp}) (no_entries t refl c.new.ensures.items) ∙ map.empty_of_len _ (table_len [] tt)
