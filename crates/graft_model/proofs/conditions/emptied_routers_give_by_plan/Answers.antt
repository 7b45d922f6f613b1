use Rattle.std.proofs.Common.{◌+◌, ap, ◌∙◌}
use Rattle.graft_model.specs.Parts.{OperatorPart}
use Rattle.graft_model.proofs.Gifts.{gives_as, given_by_step, given_stays, gift_there, gift_elsewhere, given_well, targets_plan}
use Rattle.graft_model.proofs.conditions.emptied_routers_give_by_plan.Goals as goal

-- src/conditions.rt
pub returns-clause-given : goal.returns-clause-given
returns-clause-given c setup before after graft router step known group emptied unmade =
    ap (λ (part : OperatorPart). part.given graft.graft) (gives_as setup before after step)
    ∙ given_by_step setup (record before.operator { group = before.operator.group + 1 }) graft router known group emptied unmade

pub returns-clause-others : goal.returns-clause-others
returns-clause-others c setup before after graft step known other =
    ap (λ (part : OperatorPart). part.given graft.graft) (gives_as setup before after step)
    ∙ given_stays setup (record before.operator { group = before.operator.group + 1 }) graft known other

pub returns-clause-there : goal.returns-clause-there
returns-clause-there c = gift_there

pub returns-clause-elsewhere : goal.returns-clause-elsewhere
returns-clause-elsewhere c = gift_elsewhere

pub returns-clause-well : goal.returns-clause-well
returns-clause-well c = given_well

pub returns-clause-plan : goal.returns-clause-plan
returns-clause-plan c = targets_plan
