use Rattle.std.proofs.Common.{length, arith, not, refl, ◌==◌}
use Rattle.router_tables.proofs.AddSteps.{adds_next}
use Rattle.audit_tables.specs.Dues.{is_other}
use Rattle.audit_tables.proofs.Deciding.{other_is}
use Rattle.audit_tables.proofs.sets.due_to_others.Goals as goal

pub loop-q-preserved : goal.loop-q-preserved
loop-q-preserved c =
    let due = c.args.due.now in
    let own = c.from-own.result in
    adds_next c.loop-q.q (is_other (length due) own) c.args.prefix due c.loop-q.due c.add_where.new.sets (not (c.loop-q.q == own))
    c.loop-q.invariant (other_is (length due) own c.loop-q.q (not (c.loop-q.q == own)) (omega (arith, c.loop-q-test.true)) refl)
    c.in_ok-add_where.ensures.length c.in_ok-add_where.ensures.added
