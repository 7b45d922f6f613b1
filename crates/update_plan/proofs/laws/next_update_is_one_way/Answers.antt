use Rattle.update_plan.specs.ToTell.{IsPrefixToTell}
use Rattle.update_plan.proofs.PlanLaws.{one_way}
use Rattle.update_plan.proofs.laws.next_update_is_one_way.Goals as goal

pub returns : goal.returns
returns c = λ due dirty adj_rib_out to_tell wide batch next sound writable.
    one_way (λ x. IsPrefixToTell due dirty adj_rib_out to_tell x) to_tell wide batch next sound writable
