use Rattle.std.proofs.Common.{◌≡◌, Bool, true, false, List, Some, slice_get, refl, sym, ap, subst, ◌∙◌, arith}
use Rattle.std.specs.Prelude.{option_map}
use Rattle.std.specs.Vec.{with_item}
use Rattle.prefix_trie.specs.Adding.{IsSpot}
use Rattle.prefix_trie.specs.declared.node.Node.{Node}
use Rattle.prefix_trie.specs.Trees.{entries}
use Rattle.prefix_trie.proofs.Found.{spot_inside, spot_absent}
use Rattle.prefix_trie.proofs.Settled.{exchanged, node_in}
use Rattle.prefix_trie.proofs.tree.put.Goals as goal

pub index_mut-requires : goal.index_mut-requires
index_mut-requires g c =
    let t = c.args.tree.now in
    let s = c.seek-spot.result in
    let node = subst (λ (ns : List Node). option_map (λ n. n.prefix) (slice_get ns s.at) ≡ Some c.args.prefix) c.deref-2.ensures.value
    (c.is_at.ensures.0 c.if-is_at.true) in
    let lt = node_in t.nodes.items s.at c.args.prefix node in
    let same = c.requires.trie.valued in
    omega (arith, lt, same)

pub returns-then-is_at-clause-trie : goal.returns-then-is_at-clause-trie
returns-then-is_at-clause-trie g c =
    let t = c.args.tree.now in
    let s = c.seek-spot.result in
    let spot = subst (λ (ns : List Node). IsSpot ns t.root c.args.prefix s.above s.at) c.deref.ensures.value c.seek-spot.ensures.spot in
    let node = subst (λ (ns : List Node). option_map (λ n. n.prefix) (slice_get ns s.at) ≡ Some c.args.prefix) c.deref-2.ensures.value
    (c.is_at.ensures.0 c.if-is_at.true) in
    (exchanged t c.args.prefix t.nodes.items s.at c.requires.trie refl
    (spot_inside t.nodes.items t.root c.args.prefix s.above s.at c.requires.trie.trie spot node) node
    (record { nodes = t.nodes; values = with_item t.values s.at c.replace.new.dest; free = t.free; root = t.root })
    c.index_mut.result.now c.replace.new.dest c.index_mut.ensures.value refl refl refl refl).trie

pub returns-then-is_at-clause-put : goal.returns-then-is_at-clause-put
returns-then-is_at-clause-put g c =
    let t = c.args.tree.now in
    let s = c.seek-spot.result in
    let spot = subst (λ (ns : List Node). IsSpot ns t.root c.args.prefix s.above s.at) c.deref.ensures.value c.seek-spot.ensures.spot in
    let node = subst (λ (ns : List Node). option_map (λ n. n.prefix) (slice_get ns s.at) ≡ Some c.args.prefix) c.deref-2.ensures.value
    (c.is_at.ensures.0 c.if-is_at.true) in
    let same = exchanged t c.args.prefix t.nodes.items s.at c.requires.trie refl
    (spot_inside t.nodes.items t.root c.args.prefix s.above s.at c.requires.trie.trie spot node) node
    (record { nodes = t.nodes; values = with_item t.values s.at (Some c.args.value); free = t.free; root = t.root })
    c.index_mut.result.now (Some c.args.value) c.index_mut.ensures.value refl refl refl refl in
    record {
      entries = ap (λ (o : _). entries (record { nodes = t.nodes; values = with_item t.values s.at o; free = t.free; root = t.root })) c.replace.ensures.after
          ∙ same.entries;
      before = c.replace.ensures.value ∙ sym same.there;
      used = omega arith;
    }

pub put_new-requires-clause-absent : goal.put_new-requires-clause-absent
put_new-requires-clause-absent g c =
    let t = c.args.tree.now in
    let s = c.seek-spot.result in
    let spot = subst (λ (ns : List Node). IsSpot ns t.root c.args.prefix s.above s.at) c.deref.ensures.value c.seek-spot.ensures.spot in
    spot_absent t.nodes.items t.root c.args.prefix s.above s.at c.requires.sound c.requires.trie.trie spot
    (λ node. false_is (sym c.if-is_at.false ∙ c.is_at.ensures.1
    (subst (λ (ns : List Node). option_map (λ n. n.prefix) (slice_get ns s.at) ≡ Some c.args.prefix) (sym c.deref-2.ensures.value) node)))
  where
    false_is : ◌≡◌ {A = Bool} false true → ⊥
    false_is e = cc
