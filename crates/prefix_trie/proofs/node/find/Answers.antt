use Rattle.std.proofs.Common.{Some, sym, ap, ◌∙◌, arith}
use Rattle.std.specs.Option.{option_copied, option_map}
use Rattle.prefix_trie.specs.Halves.{middle}
use Rattle.prefix_trie.specs.declared.node.Node.{Node}
use Rattle.prefix_trie.proofs.Found.{none_early, none_late}
use Rattle.prefix_trie.proofs.Levels.{at_node, in_one, in_zero, one_less, zero_less}
use Rattle.prefix_trie.proofs.Nodes.{same_prefix, other_prefix, is_before, is_past}
use Rattle.prefix_trie.proofs.Outside.{none_longer, none_there}
use Rattle.prefix_trie.proofs.node.find.Goals as goal

pub returns-then-eq-clause-index : goal.returns-then-eq-clause-index
returns-then-eq-clause-index c =
    let l = c.loop-node in
    l.invariant.inside l.at (at_node c.args.nodes.now l.at c.in-Some.node.now (sym c.node_at.ensures ∙ ap option_copied c.in-Some.is) l.invariant.trie).here

pub returns-then-eq-clause-node : goal.returns-then-eq-clause-node
returns-then-eq-clause-node c =
    ap (option_map (λ (n : Node). n.prefix)) (sym c.node_at.ensures ∙ ap option_copied c.in-Some.is)
    ∙ ap Some (same_prefix c.in-Some.node.now.prefix c.args.prefix (sym c.eq.ensures ∙ c.if-eq.true))

pub returns-else-eq-clause-none : goal.returns-else-eq-clause-none
returns-else-eq-clause-none c =
    let l = c.loop-node in
    let n = c.in-Some.node.now in
    l.invariant.absent (none_longer c.args.nodes.now l.at n (sym c.node_at.ensures ∙ ap option_copied c.in-Some.is) l.invariant.trie c.args.prefix
    (other_prefix n.prefix c.args.prefix (sym c.eq.ensures ∙ c.if-eq.false)) (omega arith))

pub returns-clause-none : goal.returns-clause-none
returns-clause-none c =
    c.loop-node.invariant.absent (none_there c.args.nodes.now c.loop-node.at c.args.prefix (sym c.node_at.ensures ∙ ap option_copied c.in_default.is))

pub loop-node-smaller-then-is_early : goal.loop-node-smaller-then-is_early
loop-node-smaller-then-is_early c =
    zero_less c.args.nodes.now c.loop-node.at c.in-Some.node.now (sym c.node_at.ensures ∙ ap option_copied c.in-Some.is) c.loop-node.invariant.trie

pub loop-node-preserved-then-is_early : goal.loop-node-preserved-then-is_early
loop-node-preserved-then-is_early c =
    let a = c.args in
    let l = c.loop-node in
    let n = c.in-Some.node.now in
    let there = sym c.node_at.ensures ∙ ap option_copied c.in-Some.is in
    let at = at_node a.nodes.now l.at n there l.invariant.trie in
    let side = is_before c.is_early.result c.address.result a.prefix.address (middle n.prefix) c.address.ensures.value c.is_early.ensures c.if-is_early.true in
    record {
      trie = at.zero_below;
      inside = λ q inside. l.invariant.inside q (in_zero a.nodes.now l.at n at q inside);
      absent = λ none. l.invariant.absent (none_early a.nodes.now l.at n there l.invariant.trie a.prefix (omega arith) side none);
    }

pub loop-node-smaller : goal.loop-node-smaller
loop-node-smaller c =
    one_less c.args.nodes.now c.loop-node.at c.in-Some.node.now (sym c.node_at.ensures ∙ ap option_copied c.in-Some.is) c.loop-node.invariant.trie

pub loop-node-preserved : goal.loop-node-preserved
loop-node-preserved c =
    let a = c.args in
    let l = c.loop-node in
    let n = c.in-Some.node.now in
    let there = sym c.node_at.ensures ∙ ap option_copied c.in-Some.is in
    let at = at_node a.nodes.now l.at n there l.invariant.trie in
    let side = is_past c.is_early.result c.address.result a.prefix.address (middle n.prefix) c.address.ensures.value c.is_early.ensures c.if-is_early.false in
    record {
      trie = at.one_below;
      inside = λ q inside. l.invariant.inside q (in_one a.nodes.now l.at n at q inside);
      absent = λ none. l.invariant.absent (none_late a.nodes.now l.at n there l.invariant.trie a.prefix (omega arith) side none);
    }
