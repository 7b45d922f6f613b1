use Rattle.actor_configs.specs.declared.script.ScriptStep.TheVariants.{Settle}
use Rattle.operator_state.proofs.Lists.{stands_in}
use Rattle.operator_core.proofs.Visits.{visit_settle}
use Rattle.operator_core.proofs.progress.Progress.visit.Goals as goal

pub returns-in-Settle-clause-ok : goal.returns-in-Settle-clause-ok
returns-in-Settle-clause-ok g c = visit_settle c.args.self.now c.args.index c.args.task c.requires.task c.requires.waits c.args.post.now
    (stands_in c.deref.result.now c.args.self.now.script.steps c.args.task.step _ Settle c.deref.ensures c.requires.within c.in-Settle.is)
