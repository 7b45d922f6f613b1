use Rattle.std.proofs.Common.{Bool, cond, List, Option, Some, sym, ap, subst, ◌∙◌}
use Rattle.std.specs.Option.{option_copied}
use Rattle.bgp_types.specs.Prefixes.{PrefixValue}
use Rattle.prefix_trie.specs.Halves.{middle}
use Rattle.prefix_trie.proofs.Nodes.{is_before, is_past}
use Rattle.prefix_trie.proofs.Longests.{untrue, Has, Walk, walk_begins, walk_ends, none_in_leaf, none_below, step_early, step_late}
use Rattle.prefix_trie.specs.Arena.{value_at, entries_at}
use Rattle.prefix_trie.proofs.Levels.{none_at, one_less, zero_less}
use Rattle.prefix_trie.proofs.Indices.{at_index}
use Rattle.prefix_trie.proofs.node.longest.Goals as goal

pub loop-node-smaller-then-is_early : goal.loop-node-smaller-then-is_early
loop-node-smaller-then-is_early g c =
    zero_less c.args.nodes.now c.loop-node.at c.in-Some.node.now (sym c.node_at.ensures ∙ ap option_copied c.in-Some.is) c.loop-node.invariant.trie

pub loop-node-smaller : goal.loop-node-smaller
loop-node-smaller g c =
    one_less c.args.nodes.now c.loop-node.at c.in-Some.node.now (sym c.node_at.ensures ∙ ap option_copied c.in-Some.is) c.loop-node.invariant.trie

pub loop-node-init : goal.loop-node-init
loop-node-init g c = record { trie = c.requires; walk = walk_begins c.args.host (entries_at c.args.nodes.now c.args.values.now c.args.root) }

pub returns-then-not-covers : goal.returns-then-not-covers
returns-then-not-covers g c =
    let n = c.in-Some.node.now in
    let l = c.loop-node in
    let es = entries_at c.args.nodes.now c.args.values.now in
    let f = at_index c.args.nodes.now c.args.values.now l.at n (sym c.node_at.ensures ∙ ap option_copied c.in-Some.is) l.invariant.trie in
    walk_ends c.args.host (es c.args.root) (es l.at) l.longest l.invariant.walk (λ q h k.
    none_below n.prefix (value_at c.args.values.now l.at) (es n.zero) (es n.one) f.node c.args.host
    (λ covers. untrue c.covers.result c.if-not-covers.true (c.covers.ensures.1 covers)) q
    (subst (λ (here : List (PrefixValue × g.row.V.Denot)). Has here q) f.is h) k)

pub loop-node-preserved-then-is_early : goal.loop-node-preserved-then-is_early
loop-node-preserved-then-is_early g c =
    let n = c.in-Some.node.now in
    let l = c.loop-node in
    let es = entries_at c.args.nodes.now c.args.values.now in
    let v = value_at c.args.values.now l.at in
    let f = at_index c.args.nodes.now c.args.values.now l.at n (sym c.node_at.ensures ∙ ap option_copied c.in-Some.is) l.invariant.trie in
    let walk = subst (λ (here : List (PrefixValue × g.row.V.Denot)). Walk c.args.host (es c.args.root) here l.longest) f.is l.invariant.walk in
    let best = sym (c.chosen-longest.ensures ∙ ap (λ (t : Bool). cond t (Some n.prefix) l.longest) c.has_value.ensures) in
    let covers = c.covers.ensures.0 c.if-not-covers.false in
    record {
      trie = f.at.zero_below;
      walk = subst (λ (b : Option PrefixValue). Walk c.args.host (es c.args.root) (es n.zero) b) best
          (step_early n.prefix v (es n.zero) (es n.one) f.node c.args.host (es c.args.root) l.longest covers
          (is_before c.is_early.result c.address.result c.args.host.address
          (middle n.prefix) c.address.ensures.value c.is_early.ensures c.if-is_early.true) walk);
    }

pub loop-node-preserved : goal.loop-node-preserved
loop-node-preserved g c =
    let n = c.in-Some.node.now in
    let l = c.loop-node in
    let es = entries_at c.args.nodes.now c.args.values.now in
    let v = value_at c.args.values.now l.at in
    let f = at_index c.args.nodes.now c.args.values.now l.at n (sym c.node_at.ensures ∙ ap option_copied c.in-Some.is) l.invariant.trie in
    let walk = subst (λ (here : List (PrefixValue × g.row.V.Denot)). Walk c.args.host (es c.args.root) here l.longest) f.is l.invariant.walk in
    let best = sym (c.chosen-longest.ensures ∙ ap (λ (t : Bool). cond t (Some n.prefix) l.longest) c.has_value.ensures) in
    let covers = c.covers.ensures.0 c.if-not-covers.false in
    record {
      trie = f.at.one_below;
      walk = subst (λ (b : Option PrefixValue). Walk c.args.host (es c.args.root) (es n.one) b) best
          (step_late n.prefix v (es n.zero) (es n.one) f.node c.args.host (es c.args.root) l.longest covers
          (is_past c.is_early.result c.address.result c.args.host.address
          (middle n.prefix) c.address.ensures.value c.is_early.ensures c.if-is_early.false) walk);
    }

pub returns : goal.returns
returns g c =
    let l = c.loop-node in
    let es = entries_at c.args.nodes.now c.args.values.now in
    walk_ends c.args.host (es c.args.root) (es l.at) l.longest l.invariant.walk (λ q h k.
    none_in_leaf g.row.V.Denot q (subst (λ (here : List (PrefixValue × g.row.V.Denot)). Has here q)
    (none_at c.args.nodes.now c.args.values.now l.at (sym c.node_at.ensures ∙ ap option_copied c.in_default.is)) h))
