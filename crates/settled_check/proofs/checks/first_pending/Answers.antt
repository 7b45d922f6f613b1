use Rattle.settled_check.proofs.Firsts.{first_of_two}
use Rattle.settled_check.proofs.checks.first_pending.Goals as goal

pub returns-in-Some-Some : goal.returns-in-Some-Some
returns-in-Some-Some c = first_of_two _ c.pending_order.ensures.derived c.args.one c.args.other
    c.in-Some-Some.one c.in-Some-Some.other c.min.result c.in-Some-Some.is-0 c.in-Some-Some.is-1 c.min.ensures
