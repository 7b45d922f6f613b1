use Rattle.std.proofs.Common.{refl, arith}
use Rattle.audit_tables.proofs.Changes.{forgotten_all, forgotten_next}
use Rattle.audit_tables.proofs.tables.Tables.forget_all.Goals as goal

pub loop-p-preserved : goal.loop-p-preserved
loop-p-preserved c = forgotten_next c.args.self.now c.loop-p.self _ c.loop-p.p c.loop-p.invariant.0 c.loop-p.invariant.1 c.loop-p.invariant.2 refl refl
    (omega (arith, c.loop-p-test.true, c.loop-p.invariant.1, c.len-p-end.ensures))

pub returns-clause-unknown : goal.returns-clause-unknown
returns-clause-unknown c = forgotten_all c.loop-p.self c.loop-p.p
    (omega (arith, c.loop-p-test.false, c.loop-p.invariant.1, c.len-p-end.ensures)) c.loop-p.invariant.2
