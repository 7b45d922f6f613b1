use Rattle.std.proofs.Common.{◌≡◌, List, Option, sym, ap, ◌∙◌, subst}
use Rattle.std.specs.Prelude.{IsSome}
use Rattle.std.specs.FinMap as map
use Rattle.bgp_types.specs.Prefixes.{PrefixValue}
use Rattle.bgp_types.specs.Tables.{prefix_cmp}
use Rattle.bgp_types.proofs.TableLaws.{table_get}
use Rattle.prefix_trie.specs.Longest.{LongestOf}
use Rattle.prefix_trie.specs.Trees.{entries}
use Rattle.prefix_trie.specs.Table.{TableValue}
use Rattle.prefix_trie.proofs.Counts.{rising_trie}
use Rattle.prefix_trie.proofs.Grown.{as_entries}
use Rattle.prefix_trie.proofs.Longests.{Has, same_longest}
use Rattle.prefix_trie.proofs.trie.TrieTable.longest_match.Goals as goal

pub returns : goal.returns
returns g c =
    let es = entries c.self.inside.tree in
    let rise = rising_trie c.self.inside.tree c.self.invariant.trie in
    let same : (p : PrefixValue) → map.find prefix_cmp p es ≡ map.get c.args.self.now.contents p =
    λ p. sym (table_get es rise p) ∙ ap (λ (t : TableValue g.row.V.Denot). map.get t.contents p) c.self.view_is in
    let same_entries = as_entries c.self.inside.tree c.deref.result.now c.deref-in-Some.result.now c.deref.ensures.value c.deref-in-Some.ensures.value in
    subst (λ (host : PrefixValue). LongestOf (λ p. IsSome (map.get c.args.self.now.contents p)) host c.longest.result) c.in-Some.ensures.value
    (same_longest (Has es) (λ p. IsSome (map.get c.args.self.now.contents p)) c.in-Some.host c.longest.result
    (λ p h. subst (λ (o : Option g.row.V.Denot). IsSome o) (same p) h) (λ p h. subst (λ (o : Option g.row.V.Denot). IsSome o) (sym (same p)) h)
    (subst (λ (xs : List (PrefixValue × g.row.V.Denot)). LongestOf (Has xs) c.in-Some.host c.longest.result) same_entries c.longest.ensures))
