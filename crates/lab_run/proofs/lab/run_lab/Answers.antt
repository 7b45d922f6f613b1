use Rattle.std.proofs.Common.{List, sym, ◌∙◌, subst}
use Rattle.std.specs.List.{AllByRecursion}
use Rattle.world_nodes.specs.RunningLabs.{stand}
use Rattle.lab_setup.specs.Setups.{setup_of}
use Rattle.node_configs.specs.declared.budget.Budget.{Budget}
use Rattle.node_configs.specs.Budgets.{IsSoundBudget}
use Rattle.node_configs.proofs.Sound.{accepted_sound}
use Rattle.node_configs.proofs.Accepted.{is_setup}
use Rattle.lab_run.proofs.Loops.{counts_back}
use Rattle.lab_run.proofs.Told.{all_told}
use Rattle.lab_run.proofs.lab.run_lab.Goals as goal

pub run_groups-requires-clause-sound : goal.run_groups-requires-clause-sound
run_groups-requires-clause-sound g c κs within = subst (λ (bs : List Budget). AllByRecursion IsSoundBudget bs)
    (sym (c.as_slice.ensures ∙ c.in_ok-budgets.ensures)) (accepted_sound c.requires.accepted.bytes c.args.input c.requires.accepted.is)

pub returns-clause-ran : goal.returns-clause-ran
returns-clause-ran g c =
    let left = c.in_ok-finish.ensures.left in
    let has = c.in_ok-running.ensures.counts in
    all_told c.labs_tell_of_runs.ensures c.args.input c.requires.accepted (stand c.in_ok-running.running)
    (stand c.run_groups.new.running) c.as_slice.result.now c.run_groups.new.made c.in_ok-end.end
    c.in_ok-running.ensures.begins (c.as_slice.ensures ∙ c.in_ok-budgets.ensures)
    (c.in_ok-end.ensures.goes (setup_of c.args.input) (is_setup c.args.input c.requires.accepted) has)
    c.in_ok-finish.field-0.actors c.in_ok-finish.field-0.journals c.in_ok-finish.field-0.marks c.in_ok-finish.field-0.left left.0
    c.in_ok-finish.ensures.actors c.in_ok-finish.ensures.journals c.in_ok-finish.ensures.marks left.1
    (left.2 (setup_of c.args.input) (counts_back (setup_of c.args.input) _ _ c.in_ok-end.ensures.counts has))
    c.lab_of.result c.lab_of.ensures.input c.lab_of.ensures.end c.lab_of.ensures.marks
    c.lab_of.ensures.rounds c.lab_of.ensures.journal c.lab_of.ensures.observed
