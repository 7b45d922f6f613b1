use Rattle.std.proofs.Common.{sym, ◌∙◌, arith}
use Rattle.std.specs.Ordering.{nat_cmp}
use Rattle.prefix_trie.proofs.Nodes.{less_from_test, lt_same}
use Rattle.prefix_set.proofs.Slots.{early_absent, none_held}
use Rattle.prefix_set.proofs.run.is_before.Goals as goal

pub returns-then-start-slots : goal.returns-then-start-slots
returns-then-start-slots c all = none_held c.args.slots.now c.args.start c.args.prefix c.requires.out c.if-start-slots.true

pub returns-else-start-slots : goal.returns-else-start-slots
returns-else-start-slots c less =
    let p = c.args.prefix in
    early_absent c.args.slots.now c.args.start c.index-slots-start.result p c.requires.rise c.requires.out (omega (arith, c.if-start-slots.false))
    (less_from_test _ (sym (lt_same (nat_cmp p.address _) (nat_cmp p.len _)) ∙ (sym c.lt.ensures ∙ less)))
