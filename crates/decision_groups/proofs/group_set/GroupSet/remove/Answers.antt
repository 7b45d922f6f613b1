use Rattle.decision_groups.proofs.Kept.{group-left, group-not_there}
use Rattle.decision_groups.proofs.group_set.GroupSet.remove.Goals as goal

pub invariant_of-self : goal.invariant_of-self
invariant_of-self c = record {
  in_order = c.in-Some.ensures.in_order;
  each = λ n. rw c.in-Some.ensures.left (group-left n c.self.inside.ranks c.args.from c.in-Some.held _ _
      c.self.invariant.in_order c.in-Some.ensures.removed (c.self.invariant.each n) (c.leave.ensures n));
}

pub invariant_of-self-in-None : goal.invariant_of-self-in-None
invariant_of-self-in-None c = record {
  in_order = c.in-None.ensures.in_order;
  each = λ n. rw c.in-None.ensures.left
      (group-not_there n c.self.inside.ranks c.args.from _ c.self.invariant.in_order c.in-None.ensures.removed (c.self.invariant.each n));
}
