use Rattle.std.proofs.Common.{◌≡◌, Bool, true, false, Option, Some, sym, ap, subst, ◌∙◌, arith}
use Rattle.std.specs.Prelude.{IfSome}
use Rattle.prefix_trie.specs.Arena.{IsUnder}
use Rattle.prefix_trie.specs.declared.node.Node.{Node}
use Rattle.prefix_trie.proofs.Beside.{beside_added}
use Rattle.prefix_trie.proofs.Levels.{at_node}
use Rattle.prefix_trie.proofs.Stepped.{covers_shorter, differs_there}
use Rattle.prefix_trie.proofs.Topped.{above_added, leaf_added}
use Rattle.prefix_trie.proofs.node.add_at.Goals as goal

pub returns-in_default : goal.returns-in_default
returns-in_default c =
    let a = c.args in
    let set = c.set_node.ensures in
    leaf_added a.nodes.now c.set_node.new.nodes a.prefix a.fresh a.spare a.index _ c.requires.can set.as_many set.others
    (sym c.copy_at.ensures ∙ c.in_default.is) (set.node ∙ ap Some c.leaf.ensures)

pub returns-then-covers : goal.returns-then-covers
returns-then-covers c =
    let a = c.args in
    let n = c.in-Some.node in
    let there = sym c.copy_at.ensures ∙ c.in-Some.is in
    let set = c.set_node-then-covers.ensures in
    let covers = c.covers.ensures.0 c.if-covers.true in
    above_added a.nodes.now c.set_node-then-covers.new.nodes a.prefix a.fresh a.spare
    a.index _ c.requires.can set.as_many set.others n there c.over.result set.node
    (covers_shorter a.prefix n.prefix (at_node a.nodes.now a.index n there c.requires.can.trie).branching.is covers
    (differs_there a.nodes.now a.prefix a.fresh a.spare a.index n c.requires.can there)) covers c.over.ensures

pub returns : goal.returns
returns c =
    let a = c.args in
    let n = c.in-Some.node in
    let there = sym c.copy_at.ensures ∙ c.in-Some.is in
    let one = c.set_node-2.ensures in
    let two = c.set_node-3.ensures in
    let new = two.others a.fresh (λ e. c.requires.can.apart.0 (0, omega arith, sym e)) ∙ (one.node ∙ ap Some c.leaf-2.ensures) in
    beside_added a.nodes.now c.set_node-3.new.nodes a.prefix a.fresh a.spare a.index n c.fork.result there c.requires.can
    (two.as_many ∙ one.as_many) (λ r f s. two.others r s ∙ one.others r f) new two.node
    (λ above. subst (λ (o : Option Node). IfSome o (λ m. IsUnder m.prefix a.prefix → ⊥)) there c.requires.stop (
      above,
      covers_shorter n.prefix a.prefix c.requires.can.is above
          (λ e. differs_there a.nodes.now a.prefix a.fresh a.spare a.index n c.requires.can there (sym e)),
    ))
    (λ below. let e : ◌≡◌ {A = Bool} false true = sym c.if-covers.false ∙ c.covers.ensures.1 below in cc) c.fork.ensures
