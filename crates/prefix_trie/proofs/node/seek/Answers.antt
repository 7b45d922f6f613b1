use Rattle.std.proofs.Common.{◌≡◌, Some, sym, ap, ◌∙◌, arith, inl, inr, refl, slice_get}
use Rattle.std.specs.Option.{option_copied}
use Rattle.prefix_trie.proofs.Nodes.{is_before, is_past}
use Rattle.prefix_trie.proofs.Levels.{at_node, one_less, zero_less}
use Rattle.prefix_trie.proofs.Standing.{way_leads}
use Rattle.prefix_trie.specs.Halves.{middle}
use Rattle.prefix_trie.proofs.node.seek.Goals as goal

pub loop-node-init : goal.loop-node-init
loop-node-init c = record { trie = c.requires; way = inl (omega arith, refl); upper = inl (omega arith) }

pub loop-node-smaller-then-is_first_half : goal.loop-node-smaller-then-is_first_half
loop-node-smaller-then-is_first_half c =
    zero_less c.args.nodes.now c.loop-node.at c.in-Some.node.now (sym c.node_at.ensures ∙ ap option_copied c.in-Some.is) c.loop-node.invariant.trie

pub loop-node-preserved-then-is_first_half : goal.loop-node-preserved-then-is_first_half
loop-node-preserved-then-is_first_half c =
    let a = c.args in
    let l = c.loop-node in
    let n = c.in-Some.node.now in
    let there : slice_get a.nodes.now l.at ≡ Some n = sym c.node_at.ensures ∙ ap option_copied c.in-Some.is in
    let lead = way_leads a.nodes.now a.root a.prefix l.above l.at l.invariant.way in
    let side = is_before c.is_first_half.result c.address.result a.prefix.address
    (middle n.prefix) c.address.ensures.value c.is_first_half.ensures c.if-is_first_half.true in
    record {
      trie = (at_node a.nodes.now l.at n there l.invariant.trie).zero_below;
      way = inr
          (record { node = n; there = there; steps = lead.0; on = lead.1; under = c.is_below.ensures.0 c.if-not-is_below.false; side = inl (side, refl) });
      upper = inr l.invariant.way;
    }

pub loop-node-smaller : goal.loop-node-smaller
loop-node-smaller c =
    one_less c.args.nodes.now c.loop-node.at c.in-Some.node.now (sym c.node_at.ensures ∙ ap option_copied c.in-Some.is) c.loop-node.invariant.trie

pub loop-node-preserved : goal.loop-node-preserved
loop-node-preserved c =
    let a = c.args in
    let l = c.loop-node in
    let n = c.in-Some.node.now in
    let there : slice_get a.nodes.now l.at ≡ Some n = sym c.node_at.ensures ∙ ap option_copied c.in-Some.is in
    let lead = way_leads a.nodes.now a.root a.prefix l.above l.at l.invariant.way in
    let side = is_past c.is_first_half.result c.address.result a.prefix.address
    (middle n.prefix) c.address.ensures.value c.is_first_half.ensures c.if-is_first_half.false in
    record {
      trie = (at_node a.nodes.now l.at n there l.invariant.trie).one_below;
      way = inr
          (record { node = n; there = there; steps = lead.0; on = lead.1; under = c.is_below.ensures.0 c.if-not-is_below.false; side = inr (side, refl) });
      upper = inr l.invariant.way;
    }
