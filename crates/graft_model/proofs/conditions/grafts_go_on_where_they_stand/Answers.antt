use Rattle.graft_model.proofs.Needs.{admits, asks, confirms, freezes, refuses, leaves}
use Rattle.graft_model.proofs.conditions.grafts_go_on_where_they_stand.Goals as goal

-- src/conditions.rt
pub returns-clause-admit : goal.returns-clause-admit
returns-clause-admit c = admits

pub returns-clause-freeze : goal.returns-clause-freeze
returns-clause-freeze c setup r k before after taken sent row = freezes r k before after taken sent row

pub returns-clause-leave : goal.returns-clause-leave
returns-clause-leave c setup r k before after taken sent row = leaves k before after taken sent row

pub returns-clause-refuse : goal.returns-clause-refuse
returns-clause-refuse c setup r k before after taken sent row = refuses r k before after taken sent row

pub returns-clause-confirm : goal.returns-clause-confirm
returns-clause-confirm c setup r k before after taken sent row = confirms setup r k before after taken sent row

pub returns-clause-ask : goal.returns-clause-ask
returns-clause-ask c setup r k q before after taken sent row = asks setup r k q before after taken sent row
