use Rattle.std.proofs.Common.{◌≡◌}
use Rattle.graft_model.specs.Setups.{Setup, IsSetup}
use Rattle.world_nodes.specs.Edges.{HasCounts}
use Rattle.world_nodes.specs.RunningLabs.{stand, counts, AllWork}
use Rattle.lab_run.specs.Stories.{MakesRounds}
use Rattle.lab_run.proofs.run.run_group.Given as goal

abbrev pub invariant-loop-made : goal.invariant-loop-made
invariant-loop-made g l = record {
  works : AllWork l.running;
  same : counts l.running ≡ counts l.fn.running;
  goes : (setup : Setup) → IsSetup setup → HasCounts setup (counts l.fn.running)
      → MakesRounds setup l.budget l.step (stand l.fn.running) l.made (stand l.running);
}
