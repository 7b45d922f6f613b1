use Rattle.std.proofs.Common.{◌≡◌, Bool, true, false, List, Option, Some, None, Vec, Global, length, set, slice_get, refl, sym, ap, subst, ◌∙◌, arith}
use Rattle.std.proofs.lemmas.List.{with_items_is}
use Rattle.std.specs.Prelude.{option_map}
use Rattle.std.specs.Vec.{with_item, with_items}
use Rattle.prefix_trie.specs.Adding.{IsSpot}
use Rattle.prefix_trie.specs.Trees.{entries}
use Rattle.prefix_trie.specs.Trimming.{IsTrimmed}
use Rattle.prefix_trie.specs.declared.node.Node.{Node}
use Rattle.prefix_trie.specs.declared.tree.Tree.{Tree}
use Rattle.prefix_trie.proofs.Found.{spot_inside, spot_absent, none_found}
use Rattle.prefix_trie.proofs.Settled.{exchanged, node_in}
use Rattle.prefix_trie.proofs.Taken.{trimmed_trie, trimmed_entries, without_absent}
use Rattle.prefix_trie.proofs.tree.take.Goals as goal

false_is : ◌≡◌ {A = Bool} false true → ⊥
false_is e = cc

pub returns-then-not-is_at-clause-taken : goal.returns-then-not-is_at-clause-taken
returns-then-not-is_at-clause-taken g c =
    let t = c.args.tree.now in
    let s = c.seek-spot.result in
    let spot = subst (λ (ns : List Node). IsSpot ns t.root c.args.prefix s.above s.at) c.deref.ensures.value c.seek-spot.ensures.spot in
    sym (none_found t.nodes.items t.values.items c.args.prefix t.root c.requires.trie.trie
    (spot_absent t.nodes.items t.root c.args.prefix s.above s.at c.requires.sound c.requires.trie.trie spot
    (λ node. false_is (sym c.if-not-is_at.true ∙ c.is_at.ensures.1
    (subst (λ (ns : List Node). option_map (λ n. n.prefix) (slice_get ns s.at) ≡ Some c.args.prefix) (sym c.deref-2.ensures.value) node)))))

pub returns-then-not-is_at-clause-entries : goal.returns-then-not-is_at-clause-entries
returns-then-not-is_at-clause-entries g c =
    let t = c.args.tree.now in
    let s = c.seek-spot.result in
    let spot = subst (λ (ns : List Node). IsSpot ns t.root c.args.prefix s.above s.at) c.deref.ensures.value c.seek-spot.ensures.spot in
    sym (without_absent c.args.prefix (entries t) (none_found t.nodes.items t.values.items c.args.prefix t.root c.requires.trie.trie
    (spot_absent t.nodes.items t.root c.args.prefix s.above s.at c.requires.sound c.requires.trie.trie spot
    (λ node. false_is (sym c.if-not-is_at.true ∙ c.is_at.ensures.1
    (subst (λ (ns : List Node). option_map (λ n. n.prefix) (slice_get ns s.at) ≡ Some c.args.prefix) (sym c.deref-2.ensures.value) node))))))

pub index_mut-requires : goal.index_mut-requires
index_mut-requires g c =
    let t = c.args.tree.now in
    let s = c.seek-spot.result in
    let node = subst (λ (ns : List Node). option_map (λ n. n.prefix) (slice_get ns s.at) ≡ Some c.args.prefix) c.deref-2.ensures.value
    (c.is_at.ensures.0 c.if-not-is_at.false) in
    let lt = node_in t.nodes.items s.at c.args.prefix node in
    let same = c.requires.trie.valued in
    omega (arith, lt, same)

pub returns-clause-taken : goal.returns-clause-taken
returns-clause-taken g c =
    let t = c.args.tree.now in
    let s = c.seek-spot.result in
    let spot = subst (λ (ns : List Node). IsSpot ns t.root c.args.prefix s.above s.at) c.deref.ensures.value c.seek-spot.ensures.spot in
    let node = subst (λ (ns : List Node). option_map (λ n. n.prefix) (slice_get ns s.at) ≡ Some c.args.prefix) c.deref-2.ensures.value
    (c.is_at.ensures.0 c.if-not-is_at.false) in
    let values : Vec (Option g.row.V.Denot) Global = with_item t.values s.at c.take-value.new.self in
    let u : Tree g.row.V.Denot = record { nodes = t.nodes; values = values; free = t.free; root = t.root } in
    let bare = exchanged t c.args.prefix t.nodes.items s.at c.requires.trie refl
    (spot_inside t.nodes.items t.root c.args.prefix s.above s.at c.requires.trie.trie spot node) node u
    c.index_mut.result.now None c.index_mut.ensures.value refl refl refl (ap (set t.values.items s.at) c.take-value.ensures.after) in
    c.take-value.ensures.value ∙ sym bare.there

pub returns-clause-trie : goal.returns-clause-trie
returns-clause-trie g c =
    let t = c.args.tree.now in
    let s = c.seek-spot.result in
    let spot = subst (λ (ns : List Node). IsSpot ns t.root c.args.prefix s.above s.at) c.deref.ensures.value c.seek-spot.ensures.spot in
    let node = subst (λ (ns : List Node). option_map (λ n. n.prefix) (slice_get ns s.at) ≡ Some c.args.prefix) c.deref-2.ensures.value
    (c.is_at.ensures.0 c.if-not-is_at.false) in
    let values : Vec (Option g.row.V.Denot) Global = with_item t.values s.at c.take-value.new.self in
    let u : Tree g.row.V.Denot = record { nodes = t.nodes; values = values; free = t.free; root = t.root } in
    let v : Tree g.row.V.Denot =
    record { nodes = with_items t.nodes c.trim-tree.new.nodes; values = values; free = c.trim-tree.new.free; root = c.trim-tree.result } in
    let bare = exchanged t c.args.prefix t.nodes.items s.at c.requires.trie refl
    (spot_inside t.nodes.items t.root c.args.prefix s.above s.at c.requires.trie.trie spot node) node u
    c.index_mut.result.now None c.index_mut.ensures.value refl refl refl (ap (set t.values.items s.at) c.take-value.ensures.after) in
    trimmed_trie u v bare.trie
    (subst (λ (ns : List Node). IsTrimmed t.nodes.items ns values.items t.free.items c.trim-tree.new.free.items t.root c.trim-tree.result)
    (sym (with_items_is t.nodes c.trim-tree.new.nodes
    (c.trim-tree.ensures.as_many ∙ (ap (λ (ns : List Node). length ns) c.deref_mut.ensures.value ∙ sym t.nodes.ok.0))))
    (subst (λ (vs : List (Option g.row.V.Denot)).
    IsTrimmed t.nodes.items c.trim-tree.new.nodes vs t.free.items c.trim-tree.new.free.items t.root c.trim-tree.result) c.deref-3.ensures.value
    (subst (λ (ns : List Node). IsTrimmed ns c.trim-tree.new.nodes c.deref-3.result.now t.free.items c.trim-tree.new.free.items t.root c.trim-tree.result)
    c.deref_mut.ensures.value c.trim-tree.ensures)))
    refl

pub returns-clause-entries : goal.returns-clause-entries
returns-clause-entries g c =
    let t = c.args.tree.now in
    let s = c.seek-spot.result in
    let spot = subst (λ (ns : List Node). IsSpot ns t.root c.args.prefix s.above s.at) c.deref.ensures.value c.seek-spot.ensures.spot in
    let node = subst (λ (ns : List Node). option_map (λ n. n.prefix) (slice_get ns s.at) ≡ Some c.args.prefix) c.deref-2.ensures.value
    (c.is_at.ensures.0 c.if-not-is_at.false) in
    let values : Vec (Option g.row.V.Denot) Global = with_item t.values s.at c.take-value.new.self in
    let u : Tree g.row.V.Denot = record { nodes = t.nodes; values = values; free = t.free; root = t.root } in
    let v : Tree g.row.V.Denot =
    record { nodes = with_items t.nodes c.trim-tree.new.nodes; values = values; free = c.trim-tree.new.free; root = c.trim-tree.result } in
    let bare = exchanged t c.args.prefix t.nodes.items s.at c.requires.trie refl
    (spot_inside t.nodes.items t.root c.args.prefix s.above s.at c.requires.trie.trie spot node) node u
    c.index_mut.result.now None c.index_mut.ensures.value refl refl refl (ap (set t.values.items s.at) c.take-value.ensures.after) in
    trimmed_entries u v bare.trie
    (subst (λ (ns : List Node). IsTrimmed t.nodes.items ns values.items t.free.items c.trim-tree.new.free.items t.root c.trim-tree.result)
    (sym (with_items_is t.nodes c.trim-tree.new.nodes
    (c.trim-tree.ensures.as_many ∙ (ap (λ (ns : List Node). length ns) c.deref_mut.ensures.value ∙ sym t.nodes.ok.0))))
    (subst (λ (vs : List (Option g.row.V.Denot)).
    IsTrimmed t.nodes.items c.trim-tree.new.nodes vs t.free.items c.trim-tree.new.free.items t.root c.trim-tree.result) c.deref-3.ensures.value
    (subst (λ (ns : List Node). IsTrimmed ns c.trim-tree.new.nodes c.deref-3.result.now t.free.items c.trim-tree.new.free.items t.root c.trim-tree.result)
    c.deref_mut.ensures.value c.trim-tree.ensures)))
    refl
    ∙ bare.entries
