use Rattle.std.proofs.Common.{rules, ◌≡◌, ◌≤◌, None, List, Option, length, get_or, sym, subst, ◌∙◌, arith}
use Rattle.std.specs.FinMap.{find}
use Rattle.bgp_types.specs.Tables.{prefix_cmp}
use Rattle.prefix_trie.specs.Arena.{HasNone}
use Rattle.prefix_trie.specs.Trees.{entries}
use Rattle.prefix_trie.specs.declared.node.Node.{Node}
use Rattle.prefix_trie.proofs.Found.{none_found}
use Rattle.prefix_trie.proofs.Settled.{found_value, found_valued}
use Rattle.prefix_trie.proofs.tree.get.Goals as goal

pub returns-in_err-index : goal.returns-in_err-index
returns-in_err-index g c =
    let t = c.args.tree.now in
    let absent : find prefix_cmp c.args.prefix (entries t) ≡ None = none_found t.nodes.items t.values.items c.args.prefix t.root c.requires.trie
    (subst (λ (ns : List Node). HasNone ns t.root c.args.prefix) c.deref.ensures.value c.in_err-index.ensures.none) in
    search rules

pub returns-in_err-get : goal.returns-in_err-get
returns-in_err-get g c =
    let t = c.args.tree.now in
    let q = c.in_ok-index.index in
    let lt = found_valued t c.args.prefix c.deref.result.now q c.requires c.deref.ensures.value c.in_ok-index.ensures.index c.in_ok-index.ensures.node in
    let ge = subst (λ (vs : List (Option g.row.V.Denot)). length vs ≤ q) c.deref-2.ensures.value c.in_err-get.ensures.lookup.3 in
    absurd (omega (arith, lt, ge))

pub returns : goal.returns
returns g c =
    let t = c.args.tree.now in
    let q = c.in_ok-index.index in
    let value = c.in_ok-get.field-0.now in
    c.as_ref.ensures.value
    ∙ sym (found_value t c.args.prefix c.deref.result.now q c.requires c.deref.ensures.value c.in_ok-index.ensures.index c.in_ok-index.ensures.node value
    (subst (λ (vs : List (Option g.row.V.Denot)). value ≡ get_or vs q value) c.deref-2.ensures.value c.in_ok-get.ensures.lookup.1))
