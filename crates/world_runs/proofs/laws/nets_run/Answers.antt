use Rattle.world_runs.proofs.Nets.{new_ran, runs_go_on, goes_on}
use Rattle.world_runs.proofs.laws.nets_run.Goals as goal

pub returns-clause-new : goal.returns-clause-new
returns-clause-new g c =
    λ own session setup actors edges v first new. new_ran own session setup (c.parts_begin_as_the_first_world.ensures setup) actors edges v first new

pub returns-clause-phases : goal.returns-clause-phases
returns-clause-phases g c = λ own session setup u v levels notes clock sound size order level grew no_go.
    runs_go_on own session (c.an_act_is_a_step.ensures.step session) setup sound u v size levels notes clock order level grew no_go

pub returns-clause-go : goal.returns-clause-go
returns-clause-go g c = λ own session setup k u v levels did clock sound size order level grew few quiet.
    goes_on own session (c.an_act_is_a_step.ensures.step session) setup sound u v size levels k did clock order level grew few quiet
