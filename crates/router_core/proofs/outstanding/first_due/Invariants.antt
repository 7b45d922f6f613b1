use Rattle.settled_check.specs.Left.{HasSome}
use Rattle.rib_stages.specs.Values.{table_at}
use Rattle.router_core.proofs.RestSteps.{NoneBelow}
use Rattle.router_core.proofs.outstanding.first_due.Given as goal

-- nothing is due for the first so many
abbrev pub invariant-loop-number : goal.invariant-loop-number
invariant-loop-number l = NoneBelow (λ n. HasSome (table_at l.due n)) l.number
