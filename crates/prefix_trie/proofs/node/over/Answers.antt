use Rattle.std.proofs.Common.{ap, inl, inr}
use Rattle.prefix_trie.specs.Halves.{middle}
use Rattle.prefix_trie.specs.declared.node.Node.{Node}
use Rattle.prefix_trie.proofs.Nodes.{is_before, is_past}
use Rattle.prefix_trie.proofs.node.over.Goals as goal

pub returns-then-is_early : goal.returns-then-is_early
returns-then-is_early c = inl (
  is_before c.is_early.result c.address.result c.args.at.address (middle c.args.prefix) c.address.ensures.value c.is_early.ensures c.if-is_early.true,
  ap (λ (m : Node). record { prefix = m.prefix; zero = c.args.index; one = m.one }) c.leaf.ensures,
)

pub returns : goal.returns
returns c = inr (
  is_past c.is_early.result c.address.result c.args.at.address (middle c.args.prefix) c.address.ensures.value c.is_early.ensures c.if-is_early.false,
  ap (λ (m : Node). record { prefix = m.prefix; zero = m.zero; one = c.args.index }) c.leaf-2.ensures,
)
