use Rattle.std.proofs.Common.{refl}
use Rattle.router_tables.proofs.AddSteps.{adds_next}
use Rattle.audit_tables.specs.Dues.{is_up_in}
use Rattle.audit_tables.proofs.sets.due_where_up.Goals as goal

pub loop-p-preserved : goal.loop-p-preserved
loop-p-preserved c = adds_next c.loop-p.p (is_up_in c.args.up.now) c.args.prefix c.args.due.now c.loop-p.due c.add_where.new.sets
    _ c.loop-p.invariant refl c.in_ok-add_where.ensures.length c.in_ok-add_where.ensures.added
