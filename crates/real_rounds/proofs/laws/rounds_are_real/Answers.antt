use Rattle.bgp_session.specs.Running.{carried}
use Rattle.world_nodes.specs.Nodes.{own}
use Rattle.real_rounds.proofs.Law.{all_real}
use Rattle.real_rounds.proofs.laws.rounds_are_real.Goals as goal

pub returns : goal.returns
returns c = all_real c.the_way_is_a_run.ensures.run c.the_way_is_a_run.ensures.order (c.marks_stand_for_worlds.ensures own carried)
    (c.an_act_is_a_step.ensures.step carried) (c.an_act_is_a_step.ensures.run carried)
    c.an_act_is_a_step.ensures.kept c.worlds_are_on_the_way.ensures.itself c.a_net_is_one_world.ensures
