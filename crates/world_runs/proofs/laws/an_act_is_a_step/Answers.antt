use Rattle.world_runs.proofs.Acts.{act_is_a_step}
use Rattle.world_runs.proofs.Runs.{acts_run, none_dropped}
use Rattle.world_runs.proofs.laws.an_act_is_a_step.Goals as goal

pub returns-clause-step : goal.returns-clause-step
returns-clause-step g c = λ session setup lab next deed w x sound reached is_lab is step quiet.
    act_is_a_step session (c.acts_are_events.ensures.rows session) c.an_event_is_a_step.ensures setup lab next deed w x
    (c.no_item_is_dropped.ensures setup w sound reached) is_lab is step quiet

pub returns-clause-run : goal.returns-clause-run
returns-clause-run g c = λ session setup lab last deeds w sound reached is_lab below no_go run.
    acts_run session (returns-clause-step g c session) setup sound lab last deeds w reached is_lab below no_go run

pub returns-clause-kept : goal.returns-clause-kept
returns-clause-kept g c = none_dropped c.codes_are_exact.ensures.above
