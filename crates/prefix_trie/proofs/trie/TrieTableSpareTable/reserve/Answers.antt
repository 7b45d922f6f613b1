use Rattle.std.proofs.Common.{length, sym, ap, ◌∙◌}
use Rattle.std.specs.FinMap as map
use Rattle.bgp_types.specs.Tables.{prefix_cmp}
use Rattle.prefix_trie.specs.Table.{TableValue}
use Rattle.prefix_trie.proofs.Grown.{grown_entries}
use Rattle.prefix_trie.proofs.trie.TrieTableSpareTable.reserve.Goals as goal

pub invariant_of-self : goal.invariant_of-self
invariant_of-self g c =
    let e = c.reserve.ensures in
    record {
      trie = e.trie;
      len = c.self.invariant.len ∙ sym (ap length (grown_entries c.self.inside.tree c.reserve.new.tree c.self.invariant.trie e.grown e.trie.few));
    }

pub returns-clause-contents : goal.returns-clause-contents
returns-clause-contents g c =
    let e = c.reserve.ensures in
    ap (map.from_sorted {R = prefix_cmp}) (grown_entries c.self.inside.tree c.reserve.new.tree c.self.invariant.trie e.grown e.trie.few)
    ∙ ap (λ (t : TableValue g.row.V.Denot). t.contents) c.self.view_is
