use Rattle.std.proofs.Common.{inl, inr, refl}
use Rattle.prefix_trie.specs.Halves.{middle}
use Rattle.prefix_trie.proofs.Nodes.{is_before, is_past}
use Rattle.prefix_trie.proofs.node.linked.Goals as goal

pub returns-then-is_early : goal.returns-then-is_early
returns-then-is_early c = inl (
  is_before c.is_early.result c.address.result c.args.prefix.address
      (middle c.args.node.prefix) c.address.ensures.value c.is_early.ensures c.if-is_early.true,
  refl,
)

pub returns : goal.returns
returns c = inr (
  is_past c.is_early.result c.address.result c.args.prefix.address
      (middle c.args.node.prefix) c.address.ensures.value c.is_early.ensures c.if-is_early.false,
  refl,
)
