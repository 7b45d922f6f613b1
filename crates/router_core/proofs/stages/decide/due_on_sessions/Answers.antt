use Rattle.std.proofs.Common.{ap, ◌∙◌}
use Rattle.router_core.specs.Deciding.{is_up_at}
use Rattle.router_core.specs.declared.fields.Fields.{Fields}
use Rattle.router_tables.proofs.AddSteps.{adds_next}
use Rattle.router_core.proofs.stages.decide.due_on_sessions.Goals as goal

pub loop-n-preserved : goal.loop-n-preserved
loop-n-preserved c = (
  adds_next c.loop-n.n (is_up_at c.args.router.now) c.args.prefix c.args.router.now.due_out
      c.loop-n.router.due_out c.add_where.new.sets c.is_up-is_due.result c.loop-n.invariant.0
      (c.is_up-is_due.ensures
      ∙ ap (λ (f : Fields). is_up_at f c.loop-n.n) c.loop-n.invariant.1)
      c.in_ok-add_where.ensures.length c.in_ok-add_where.ensures.added,
  ap (λ (f : Fields). let g : Fields = record f { due_out = c.add_where.new.sets } in g) c.loop-n.invariant.1,
)
