use Rattle.std.proofs.Common.{arith}
use Rattle.item_channels.proofs.Empties.{IsEmpty, none_at, pushed}
use Rattle.item_channels.proofs.inboxes.empty_inbox.Goals as goal

pub loop-n-preserved : goal.loop-n-preserved
loop-n-preserved g c =
    pushed IsEmpty c.loop-n.channels.items c.push.new.self.items c.new.result c.loop-n._n c.in_ok-push.ensures.items c.loop-n.invariant c.new.ensures

pub returns-clause-count : goal.returns-clause-count
returns-clause-count g c = omega (arith, c.loop-n.invariant.0, c.loop-n-test.false, c.loop-n.auto._n-end)

pub returns-clause-empty : goal.returns-clause-empty
returns-clause-empty g c = λ n. none_at c.loop-n.channels.items c.loop-n.invariant.1 n
