use Rattle.std.proofs.Common.{ℕ, ap, arith, not, ◌==◌}
use Rattle.router_core.specs.Deciding.{is_other_router}
use Rattle.router_core.specs.declared.fields.Fields.{Fields}
use Rattle.router_tables.proofs.AddSteps.{adds_next}
use Rattle.router_core.proofs.DecideSteps.{other_is}
use Rattle.router_core.proofs.stages.decide.due_to_routers.Goals as goal

pub loop-q-preserved : goal.loop-q-preserved
loop-q-preserved c = (
  adds_next c.loop-q.q (is_other_router c.args.router.now) c.args.prefix c.args.router.now.due_in c.loop-q.router.due_in c.add_where.new.sets
      (not (c.loop-q.q == c.from-own.result)) c.loop-q.invariant.0
      (other_is c.args.router.now c.loop-q.q (not (c.loop-q.q == c.from-own.result))
      (omega (arith, c.loop-q-test.true, c.requires.routers)) (ap (λ (m : ℕ). not (c.loop-q.q == m)) c.from-own.ensures))
      c.in_ok-add_where.ensures.length c.in_ok-add_where.ensures.added,
  ap (λ (f : Fields). let g : Fields = record f { due_in = c.add_where.new.sets } in g) c.loop-q.invariant.1,
)
