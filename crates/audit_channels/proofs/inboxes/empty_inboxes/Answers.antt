use Rattle.std.proofs.Common.{List, length, arith, ap, ◌∙◌, sym, subst, ℕ, ◌+◌}
use Rattle.std.specs.List.{AllByRecursion}
use Rattle.audit_channels.specs.declared.inboxes.Inbox.{Inbox}
use Rattle.audit_channels.proofs.Empties.{IsEmptyInbox, none_between, as_many, one_more, longer}
use Rattle.audit_channels.proofs.inboxes.empty_inboxes.Goals as goal

pub loop-n-preserved : goal.loop-n-preserved
loop-n-preserved c =
    let is : IsEmptyInbox c.args.count c.in_ok-empty_inbox.field-0 =
    record { all = c.in_ok-empty_inbox.ensures.count; none = c.in_ok-empty_inbox.ensures.empty } in (
      ap (λ (xs : List Inbox). length xs) c.in_ok-push.ensures.items ∙ longer c.loop-n.inboxes.items c.in_ok-empty_inbox.field-0
          ∙ ap (λ (n : ℕ). n + 1) c.loop-n.invariant.0,
      subst (AllByRecursion (IsEmptyInbox c.args.count)) (sym c.in_ok-push.ensures.items)
          (one_more (IsEmptyInbox c.args.count) c.loop-n.inboxes.items c.in_ok-empty_inbox.field-0 c.loop-n.invariant.1 is),
    )

pub returns-clause-square : goal.returns-clause-square
returns-clause-square c = record {
  all = omega (arith, c.loop-n.invariant.0, c.loop-n-test.false, c.loop-n.auto._n-end);
  each = as_many c.args.count c.loop-n.inboxes.items c.loop-n.invariant.1;
}

pub returns-clause-empty : goal.returns-clause-empty
returns-clause-empty c = λ a b. none_between c.args.count c.loop-n.inboxes.items c.loop-n.invariant.1 a b
