use Rattle.std.proofs.Common.{◌≡◌, None, List, ◌++◌, Option, ◌∙◌, length, refl, sym, ap, subst}
use Rattle.std.specs.List.{Contains}
use Rattle.std.specs.Vec.{with_items}
use Rattle.std.proofs.lemmas.List.{with_items_is}
use Rattle.prefix_trie.specs.declared.node.Node.{Node}
use Rattle.prefix_trie.specs.declared.tree.Tree.{Tree}
use Rattle.prefix_trie.specs.Arena.{nowhere, indices_at, value_at}
use Rattle.prefix_trie.proofs.Emptied.{no_entries, emptied_trie}
use Rattle.prefix_trie.proofs.tree.clear.Goals as goal

pub returns-clause-trie : goal.returns-clause-trie
returns-clause-trie g c =
    let t = c.args.tree.now in
    let ws = c.empty.new.values in
    let nodes_are = c.deref.ensures.value in
    let as_many : length ws ≡ length t.nodes.items = c.empty.ensures.valued ∙ ap (λ (ns : List Node). length ns) nodes_are in
    let all : length ws ≡ t.values.len = as_many
    ∙ (sym c.requires.valued ∙ (sym (ap (λ (vs : List (Option g.row.V.Denot)). length vs) c.deref_mut.ensures.value) ∙ c.deref_mut.ensures.len)) in
    let values_are : (with_items t.values ws).items ≡ ws = with_items_is t.values ws all in
    let u : Tree g.row.V.Denot = record { nodes = t.nodes; values = with_items t.values ws; free = c.empty.new.free; root = nowhere } in
    emptied_trie t u c.requires refl refl c.empty.ensures.apart
    (λ q inside. subst (λ (ns : List Node). Contains (indices_at ns t.root ++ t.free.items) q) nodes_are (c.empty.ensures.among q inside))
    (λ q inside. subst (λ (vs : List (Option g.row.V.Denot)). value_at vs q ≡ None) (sym values_are) (c.empty.ensures.bare q inside))
    (ap (λ (vs : List (Option g.row.V.Denot)). length vs) values_are ∙ as_many)

pub returns-clause-none : goal.returns-clause-none
returns-clause-none g c =
    let t = c.args.tree.now in
    let u : Tree g.row.V.Denot = record { nodes = t.nodes; values = with_items t.values c.empty.new.values; free = c.empty.new.free; root = nowhere } in
    no_entries u c.requires.few refl
