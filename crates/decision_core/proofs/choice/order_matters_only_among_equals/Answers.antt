use Rattle.std.proofs.Common.{sym}
use Rattle.decision_core.proofs.AnyOrder.{ranks_left-first, ranks_left-IsPermutation, ranks_left-equal}
use Rattle.decision_core.proofs.choice.order_matters_only_among_equals.Goals as goal

pub returns-clause-same : goal.returns-clause-same
returns-clause-same c = ranks_left-IsPermutation c.args.list.now c.args.other.now c.requires

pub returns-clause-equal : goal.returns-clause-equal
returns-clause-equal c = ranks_left-equal c.args.list.now

pub returns-clause-first : goal.returns-clause-first
returns-clause-first c = sym (ranks_left-first c.args.list.now)
