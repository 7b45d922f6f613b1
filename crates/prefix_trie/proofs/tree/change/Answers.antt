use Rattle.std.proofs.Common.{rules, ◌≡◌, List, None, Some, set, refl, ap, subst, ◌∙◌, arith}
use Rattle.std.specs.FinMap.{find}
use Rattle.bgp_types.specs.Tables.{prefix_cmp}
use Rattle.prefix_trie.specs.Trees.{entries}
use Rattle.prefix_trie.specs.declared.node.Node.{Node}
use Rattle.prefix_trie.proofs.Found.{none_found}
use Rattle.std.specs.Vec.{with_item}
use Rattle.std.proofs.lemmas.List.{set-get_or}
use Rattle.prefix_trie.specs.Arena.{entries_at, HasNone}
use Rattle.prefix_trie.proofs.Settled.{exchanged, found_valued}
use Rattle.prefix_trie.proofs.tree.change.Goals as goal

pub returns-in_err-index-clause-changed : goal.returns-in_err-index-clause-changed
returns-in_err-index-clause-changed g c =
    let t = c.args.tree.now in
    let absent : find prefix_cmp c.args.prefix (entries t) ≡ None = none_found t.nodes.items t.values.items c.args.prefix t.root c.requires.trie.trie
    (subst (λ (ns : List Node). HasNone ns t.root c.args.prefix) c.deref.ensures.value c.in_err-index.ensures.none) in
    search rules

pub index_mut-requires : goal.index_mut-requires
index_mut-requires g c =
    let lt = found_valued c.args.tree.now c.args.prefix c.deref.result.now c.in_ok-index.index
    c.requires.trie c.deref.ensures.value c.in_ok-index.ensures.index c.in_ok-index.ensures.node in
    omega (arith, lt)

pub returns-in-Some-clause-trie : goal.returns-in-Some-clause-trie
returns-in-Some-clause-trie g c =
    let t = c.args.tree.now in
    let q = c.in_ok-index.index in
    (exchanged t c.args.prefix c.deref.result.now q c.requires.trie c.deref.ensures.value c.in_ok-index.ensures.index c.in_ok-index.ensures.node
    (record { nodes = t.nodes; values = with_item t.values q (Some c.edit.new.arg2); free = t.free; root = t.root })
    c.index_mut.result.now (Some c.edit.new.arg2) c.index_mut.ensures.value refl refl refl refl).trie

pub returns-in-Some-clause-changed : goal.returns-in-Some-clause-changed
returns-in-Some-clause-changed g c =
    let t = c.args.tree.now in
    let q = c.in_ok-index.index in
    let same = exchanged t c.args.prefix c.deref.result.now q c.requires.trie c.deref.ensures.value c.in_ok-index.ensures.index c.in_ok-index.ensures.node
    (record { nodes = t.nodes; values = with_item t.values q (Some c.edit.new.arg2); free = t.free; root = t.root })
    c.index_mut.result.now (Some c.edit.new.arg2) c.index_mut.ensures.value refl refl refl refl in
    record {
      old = c.in-Some.value;
      new = c.edit.new.arg2;
      there = same.there ∙ c.in-Some.is;
      step = record { shown = _; shows = refl; left = _; met = c.edit.ensures; leaves = refl };
      entries = same.entries;
    }

pub returns-in-None-clause-changed : goal.returns-in-None-clause-changed
returns-in-None-clause-changed g c =
    let t = c.args.tree.now in
    let q = c.in_ok-index.index in
    let same = exchanged t c.args.prefix c.deref.result.now q c.requires.trie c.deref.ensures.value c.in_ok-index.ensures.index c.in_ok-index.ensures.node
    (record { nodes = t.nodes; values = with_item t.values q c.index_mut.result.now; free = t.free; root = t.root })
    c.index_mut.result.now c.index_mut.result.now c.index_mut.ensures.value refl refl refl refl in
    record {
      none = same.there ∙ c.in-None.is;
      entries = ap (λ (vs : _). entries_at t.nodes.items vs t.root)
          (ap (λ (o : _). set t.values.items q o) c.index_mut.ensures.value ∙ set-get_or t.values.items q c.index_mut.result.now);
    }
