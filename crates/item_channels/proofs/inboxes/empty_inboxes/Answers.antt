use Rattle.std.proofs.Common.{arith, length, ◌≡◌}
use Rattle.std.proofs.lemmas.List.Elements.{All-from_recursion}
use Rattle.item_channels.proofs.Empties.{IsEmptyInbox, none_between, as_many, pushed}
use Rattle.item_channels.proofs.inboxes.empty_inboxes.Goals as goal

pub loop-n-preserved : goal.loop-n-preserved
loop-n-preserved g c =
    let is : IsEmptyInbox c.args.count c.in_ok-empty_inbox.field-0 =
    record { all = c.in_ok-empty_inbox.ensures.count; none = c.in_ok-empty_inbox.ensures.empty } in
    pushed (IsEmptyInbox c.args.count) c.loop-n.inboxes.items c.push.new.self.items c.in_ok-empty_inbox.field-0 c.loop-n._n c.in_ok-push.ensures.items
    c.loop-n.invariant is

pub returns-clause-square : goal.returns-clause-square
returns-clause-square g c = record {
  all = omega (arith, c.loop-n.invariant.0, c.loop-n-test.false, c.loop-n.auto._n-end);
  each = All-from_recursion (λ inbox. length inbox.channels.items ≡ c.args.count) c.loop-n.inboxes.items
      (as_many c.args.count c.loop-n.inboxes.items c.loop-n.invariant.1);
}

pub returns-clause-empty : goal.returns-clause-empty
returns-clause-empty g c = λ a b. none_between c.args.count c.loop-n.inboxes.items c.loop-n.invariant.1 a b
