use Rattle.std.proofs.Common.{ℕ, Option, subst}
use Rattle.std.specs.Prelude.{IfNone}
use Rattle.operator_state.specs.declared.groups.Task.{Task}
use Rattle.audit_operator.specs.Tasks.{IsNamed}
use Rattle.audit_operator.proofs.Refusals.{none_named}
use Rattle.audit_operator.proofs.Finding.{found, found_there}
use Rattle.audit_operator.proofs.operator.AuditedOperator.order.Goals as goal

pub returns-in_default : goal.returns-in_default
returns-in_default c = none_named c.args.self.now c.requires c.args.step c.args.number
    (subst (λ (o : Option ℕ). IfNone o ((index : ℕ) (task : Task) → ¬ IsNamed c.args.self.now c.args.step c.args.number index task))
    c.in_default.is c.find_task.ensures.none)

pub task-task-requires : goal.task-task-requires
task-task-requires c = found_there c.args.self.now c.args.step c.args.number c.find_task.result c.in-Some.index c.in-Some.is c.find_task.ensures.some

pub returns-in-Some-says : goal.returns-in-Some-says
returns-in-Some-says c = c.order_say.ensures c.args.step c.args.number
    (found c.args.self.now c.args.step c.args.number c.find_task.result c.in-Some.index c.in-Some.is c.find_task.ensures.some
    c.task-task.result c.task-task.ensures)

pub returns-in-None : goal.returns-in-None
returns-in-None c = c.order_graft.ensures c.args.step c.args.number
    (found c.args.self.now c.args.step c.args.number c.find_task.result c.in-Some.index c.in-Some.is c.find_task.ensures.some
    c.task-task.result c.task-task.ensures)
