use Rattle.bgp_session.specs.Running.{carried}
use Rattle.run_clocks.proofs.Law.{all_clocked}
use Rattle.run_clocks.proofs.laws.journals_are_clocked.Goals as goal

pub returns : goal.returns
returns c = all_clocked c.the_way_is_a_run.ensures.run
    (c.an_act_is_a_step.ensures.step carried) c.worlds_are_on_the_way.ensures.itself c.an_entry_is_of_one_event.ensures.one
