use Rattle.std.proofs.Common.{refl, arith, inl, inr}
use Rattle.prefix_trie.proofs.Sides.{fork_same}
use Rattle.prefix_trie.proofs.node.fork.Goals as goal

pub returns-then-address : goal.returns-then-address
returns-then-address c =
    let a = c.args in
    let value = c.address.ensures.value in
    let value_2 = c.address-2.ensures.value in
    inl (
      omega (arith, c.if-address.true, value, value_2),
      fork_same _ a.prefix.address _ a.at.address c.fork_of.result c.address-then-address.ensures.value
          c.address-then-address-2.ensures.value c.fork_of.ensures,
      refl,
    )

pub returns : goal.returns
returns c =
    let a = c.args in
    let value = c.address.ensures.value in
    let value_2 = c.address-2.ensures.value in
    inr (
      omega (arith, c.if-address.false, value, value_2),
      fork_same _ a.at.address _ a.prefix.address c.fork_of-2.result c.address-3.ensures.value c.address-4.ensures.value c.fork_of-2.ensures,
      refl,
    )
