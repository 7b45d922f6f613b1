use Rattle.std.proofs.Common.{◌++◌, ◌∷◌, [], ℕ, List, Some, refl, sym, ap, subst, ◌∙◌, arith, inl}
use Rattle.std.specs.Vec.{with_item, with_items}
use Rattle.std.proofs.lemmas.List.{with_items_is}
use Rattle.prefix_trie.specs.declared.node.Node.{Node}
use Rattle.prefix_trie.specs.Adding.{CanAdd, IsAdded}
use Rattle.prefix_trie.proofs.Settled.{can_add, fresh_valued, put_trie, put_entries, kept_rest, kept_pushed}
use Rattle.prefix_trie.proofs.tree.put_free.Goals as goal

pub add_node-added-requires-clause-can : goal.add_node-added-requires-clause-can
add_node-added-requires-clause-can g c =
    let s = c.in-Some-Some in
    let a = c.args in
    let free = s.ensures.items ∙ ap (λ (xs : List ℕ). xs ++ s.fresh ∷ []) s.ensures'.items in
    subst (λ (ns : List Node). CanAdd ns a.prefix s.fresh s.spare a.tree.now.root) (sym c.deref_mut.ensures.value)
    (can_add a.tree.now a.prefix c.pop-2.new.self.items s.spare s.fresh c.requires.trie free c.requires.sound c.requires.absent)

pub index_mut-requires : goal.index_mut-requires
index_mut-requires g c =
    let s = c.in-Some-Some in
    let a = c.args in
    let free = s.ensures.items ∙ ap (λ (xs : List ℕ). xs ++ s.fresh ∷ []) s.ensures'.items in
    let lt = fresh_valued a.tree.now a.prefix c.pop-2.new.self.items s.spare s.fresh c.requires.trie free in
    let len = a.tree.now.values.ok.0 in
    omega (arith, lt, len)

pub returns-then-not-added-clause-trie : goal.returns-then-not-added-clause-trie
returns-then-not-added-clause-trie g c =
    let s = c.in-Some-Some in
    let a = c.args in
    let t = a.tree.now in
    let rest = c.pop-2.new.self.items in
    let free = s.ensures.items ∙ ap (λ (xs : List ℕ). xs ++ s.fresh ∷ []) s.ensures'.items in
    let added = subst (λ (ns : List Node). IsAdded ns c.add_node-added.new.nodes a.prefix s.fresh s.spare t.root
    c.add_node-added.result.root c.add_node-added.result.forked) c.deref_mut.ensures.value c.add_node-added.ensures in
    let kept = kept_pushed t a.prefix rest s.spare s.fresh c.requires.trie free
    c.add_node-added.result.forked c.if-not-added.true c.push.new.self.items _ c.push.ensures.items in
    put_trie t a.prefix rest s.spare s.fresh c.requires.trie free _ c.add_node-added.new.nodes
    a.value c.add_node-added.result.root c.add_node-added.result.forked added
    (with_items_is t.nodes c.add_node-added.new.nodes (added.as_many ∙ sym t.nodes.ok.0)) refl refl kept.0 kept.1

pub returns-then-not-added-clause-put : goal.returns-then-not-added-clause-put
returns-then-not-added-clause-put g c =
    let s = c.in-Some-Some in
    let a = c.args in
    let t = a.tree.now in
    let rest = c.pop-2.new.self.items in
    let free = s.ensures.items ∙ ap (λ (xs : List ℕ). xs ++ s.fresh ∷ []) s.ensures'.items in
    let added = subst (λ (ns : List Node). IsAdded ns c.add_node-added.new.nodes a.prefix s.fresh s.spare t.root
    c.add_node-added.result.root c.add_node-added.result.forked) c.deref_mut.ensures.value c.add_node-added.ensures in
    let kept = kept_pushed t a.prefix rest s.spare s.fresh c.requires.trie free
    c.add_node-added.result.forked c.if-not-added.true c.push.new.self.items _ c.push.ensures.items in
    put_entries t a.prefix rest s.spare s.fresh c.requires.trie free (record {
      nodes = with_items t.nodes c.add_node-added.new.nodes;
      values = with_item t.values s.fresh (Some a.value);
      free = c.push.new.self;
      root = c.add_node-added.result.root;
    }) c.add_node-added.new.nodes a.value c.add_node-added.result.root c.add_node-added.result.forked added
    (with_items_is t.nodes c.add_node-added.new.nodes (added.as_many ∙ sym t.nodes.ok.0)) refl refl kept.0 kept.1

pub returns-else-not-added-clause-trie : goal.returns-else-not-added-clause-trie
returns-else-not-added-clause-trie g c =
    let s = c.in-Some-Some in
    let a = c.args in
    let t = a.tree.now in
    let rest = c.pop-2.new.self.items in
    let free = s.ensures.items ∙ ap (λ (xs : List ℕ). xs ++ s.fresh ∷ []) s.ensures'.items in
    let added = subst (λ (ns : List Node). IsAdded ns c.add_node-added.new.nodes a.prefix s.fresh s.spare t.root
    c.add_node-added.result.root c.add_node-added.result.forked) c.deref_mut.ensures.value c.add_node-added.ensures in
    put_trie t a.prefix rest s.spare s.fresh c.requires.trie free _ c.add_node-added.new.nodes
    a.value c.add_node-added.result.root c.add_node-added.result.forked added
    (with_items_is t.nodes c.add_node-added.new.nodes (added.as_many ∙ sym t.nodes.ok.0)) refl refl
    (kept_rest t a.prefix rest s.spare s.fresh c.requires.trie free) (λ q at. inl at)

pub returns-else-not-added-clause-put : goal.returns-else-not-added-clause-put
returns-else-not-added-clause-put g c =
    let s = c.in-Some-Some in
    let a = c.args in
    let t = a.tree.now in
    let rest = c.pop-2.new.self.items in
    let free = s.ensures.items ∙ ap (λ (xs : List ℕ). xs ++ s.fresh ∷ []) s.ensures'.items in
    let added = subst (λ (ns : List Node). IsAdded ns c.add_node-added.new.nodes a.prefix s.fresh s.spare t.root
    c.add_node-added.result.root c.add_node-added.result.forked) c.deref_mut.ensures.value c.add_node-added.ensures in
    put_entries t a.prefix rest s.spare s.fresh c.requires.trie free (record {
      nodes = with_items t.nodes c.add_node-added.new.nodes;
      values = with_item t.values s.fresh (Some a.value);
      free = c.pop-2.new.self;
      root = c.add_node-added.result.root;
    }) c.add_node-added.new.nodes a.value c.add_node-added.result.root c.add_node-added.result.forked added
    (with_items_is t.nodes c.add_node-added.new.nodes (added.as_many ∙ sym t.nodes.ok.0)) refl refl
    (kept_rest t a.prefix rest s.spare s.fresh c.requires.trie free) (λ q at. inl at)
