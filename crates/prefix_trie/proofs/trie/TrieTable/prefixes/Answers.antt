use Rattle.std.proofs.Common.{List, ◌++◌, map, sym, ap, ◌∙◌}
use Rattle.std.specs.FinMap as table
use Rattle.bgp_types.specs.Prefixes.{PrefixValue}
use Rattle.bgp_types.proofs.TableLaws.{table_keys}
use Rattle.prefix_trie.specs.Trees.{entries}
use Rattle.prefix_trie.specs.Table.{TableValue}
use Rattle.prefix_trie.proofs.Grown.{as_entries}
use Rattle.prefix_trie.proofs.Counts.{rising_trie}
use Rattle.prefix_trie.proofs.trie.TrieTable.prefixes.Goals as goal

pub returns : goal.returns
returns g c =
    let es = entries c.self.inside.tree in
    let same_entries = as_entries c.self.inside.tree c.deref.result.now c.deref-2.result.now c.deref.ensures.value c.deref-2.ensures.value in
    c.in_ok-list.ensures
    ∙ (ap (λ (xs : List (PrefixValue × g.row.V.Denot)). c.from_vec-prefixes.result ++ map (λ e. e.0) xs) same_entries
    ∙ (ap (λ (ps : List PrefixValue). ps ++ map (λ e. e.0) es) (c.from_vec-prefixes.ensures ∙ c.in_ok-with_capacity.ensures.items)
    ∙ (sym (table_keys es (rising_trie c.self.inside.tree c.self.invariant.trie))
    ∙ ap (λ (t : TableValue g.row.V.Denot). table.keys t.contents) c.self.view_is)))
