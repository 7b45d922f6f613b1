use Rattle.world_runs.proofs.Itself.{nobody_writes_to_itself}
use Rattle.world_runs.proofs.OnTheWay.{on_the_way}
use Rattle.world_runs.proofs.laws.worlds_are_on_the_way.Goals as goal

pub returns-clause-way : goal.returns-clause-way
returns-clause-way c = λ setup w sound reached within. on_the_way setup w (c.every_world_is_owned.ensures setup reached.events w sound reached.run)
    (λ p below. c.sessions_are_unbroken.ensures.unbroken setup w p sound reached below)
    sound within (λ p below. c.one_session_is_held.ensures.count setup w p sound reached below)

pub returns-clause-itself : goal.returns-clause-itself
returns-clause-itself c = nobody_writes_to_itself
