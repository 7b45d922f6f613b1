use Rattle.std.proofs.Common.{sym, ◌∙◌}
use Rattle.decision_groups.proofs.Kept.{group-joined_new, group-joined_same, group-moved, group-undone}
use Rattle.decision_groups.proofs.group_set.GroupSet.set.Goals as goal

pub invariant_of-self-then-old-rank : goal.invariant_of-self-then-old-rank
invariant_of-self-then-old-rank c = record {
  in_order = c.in-Ok-Some.ensures.in_order;
  each = λ n. rw c.in-Ok-Some.ensures.ok
      (group-moved n c.self.inside.ranks c.args.from c.args.rank c.in-Ok-Some.old _ _ _ c.if-old-rank.true c.self.invariant.in_order
      (sym c.in-Ok-Some.field-0-is ∙ c.in-Ok-Some.ensures.replaced) (c.self.invariant.each n) (c.in_ok-join.ensures.ok n) (c.leave.ensures n));
}

pub invariant_of-self-else-old-rank : goal.invariant_of-self-else-old-rank
invariant_of-self-else-old-rank c = record {
  in_order = c.in-Ok-Some.ensures.in_order;
  each = λ n. rw c.in-Ok-Some.ensures.ok (group-joined_same n c.self.inside.ranks c.args.from c.args.rank c.in-Ok-Some.old _ _ c.self.invariant.in_order
      (sym c.in-Ok-Some.field-0-is ∙ c.in-Ok-Some.ensures.replaced) c.if-old-rank.false (c.self.invariant.each n) (c.in_ok-join.ensures.ok n));
}

pub invariant_of-self-in-Ok-None : goal.invariant_of-self-in-Ok-None
invariant_of-self-in-Ok-None c = record {
  in_order = c.in-Ok-None.ensures.in_order;
  each = λ n. rw c.in-Ok-None.ensures.ok (group-joined_new n c.self.inside.ranks c.args.from c.args.rank _ _ c.self.invariant.in_order
      (sym c.in-Ok-None.field-0-is ∙ c.in-Ok-None.ensures.replaced) (c.self.invariant.each n) (c.in_ok-join.ensures.ok n));
}

pub invariant_of-self-in-Err : goal.invariant_of-self-in-Err
invariant_of-self-in-Err c = record {
  in_order = c.in-Err.ensures.in_order;
  each = λ n. rw c.in-Err.ensures.err (group-undone n c.self.inside.ranks c.args.from c.args.rank _ _ _ c.self.invariant.in_order
      c.in-Err.ensures.absent (c.self.invariant.each n) (c.in_ok-join.ensures.ok n) (c.leave-in-Err.ensures n));
}
