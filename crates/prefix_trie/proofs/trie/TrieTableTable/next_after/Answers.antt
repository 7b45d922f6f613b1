use Rattle.std.proofs.Common.{List, map as list_map, Option, Some, None, sym, ap, ◌∙◌}
use Rattle.std.specs.FinMap as map
use Rattle.bgp_types.specs.Prefixes.{PrefixValue}
use Rattle.bgp_types.specs.Tables.{first_above}
use Rattle.bgp_types.proofs.TableLaws.{table_keys}
use Rattle.prefix_trie.specs.Trees.{entries}
use Rattle.prefix_trie.specs.Table.{TableValue}
use Rattle.prefix_trie.proofs.Grown.{as_entries}
use Rattle.prefix_trie.proofs.Counts.{rising_trie}
use Rattle.prefix_trie.proofs.trie.TrieTableTable.next_after.Goals as goal

pub returns-in-None : goal.returns-in-None
returns-in-None g c =
    let es = entries c.self.inside.tree in
    let same_entries = as_entries c.self.inside.tree c.deref.result.now c.deref-in-None.result.now c.deref.ensures.value c.deref-in-None.ensures.value in
    c.first.ensures
    ∙ (ap (λ (xs : List (PrefixValue × g.row.V.Denot)). first_above None (list_map (λ e. e.0) xs)) same_entries
    ∙ (ap (first_above None) (sym (table_keys es (rising_trie c.self.inside.tree c.self.invariant.trie))
    ∙ ap (λ (t : TableValue g.row.V.Denot). map.keys t.contents) c.self.view_is)
    ∙ ap (λ (p : Option PrefixValue). first_above p (map.keys c.args.self.now.contents)) (sym c.in-None.is)))

pub returns-in-Some : goal.returns-in-Some
returns-in-Some g c =
    let es = entries c.self.inside.tree in
    let same_entries =
    as_entries c.self.inside.tree c.deref-in-Some.result.now c.deref-in-Some-2.result.now c.deref-in-Some.ensures.value c.deref-in-Some-2.ensures.value in
    c.next.ensures
    ∙ (ap (λ (xs : List (PrefixValue × g.row.V.Denot)). first_above (Some c.in-Some.prefix) (list_map (λ e. e.0) xs)) same_entries
    ∙ (ap (first_above (Some c.in-Some.prefix)) (sym (table_keys es (rising_trie c.self.inside.tree c.self.invariant.trie))
    ∙ ap (λ (t : TableValue g.row.V.Denot). map.keys t.contents) c.self.view_is)
    ∙ ap (λ (p : Option PrefixValue). first_above p (map.keys c.args.self.now.contents)) (sym c.in-Some.is)))
