use Rattle.lab_run.proofs.Labs.{labs_tell}
use Rattle.lab_run.proofs.laws.labs_tell_of_runs.Goals as goal

pub returns : goal.returns
returns c =
    labs_tell c.the_way_is_a_run.ensures.run c.runs_are_transparent.ensures
    c.always_unchanged.ensures c.always_made_before_broken.ensures c.quiet_solves.ensures
    c.always_transparent.ensures c.solved_walks.ensures.two c.solved_walks.ensures.leaves c.evacuations_go_by_plan.ensures
    c.emptied_routers_are_left.ensures c.marks_stand_for_one_world.ensures c.rounds_are_real.ensures
    c.journals_are_clocked.ensures c.silent_worlds_are_quiet.ensures c.moves_are_bounded.ensures c.settled_worlds_are_the_solution.ensures
    c.settled_runs_have_one_answer.ensures c.sure_laboratories_have_results.ensures
