use Rattle.std.proofs.Common.{◌≡◌, take}
use Rattle.graft_model.specs.Setups.{Setup, IsSetup}
use Rattle.world_nodes.specs.Edges.{HasCounts}
use Rattle.world_nodes.specs.RunningLabs.{stand, counts, AllWork}
use Rattle.lab_run.specs.Stories.{GroupsGo}
use Rattle.lab_run.proofs.run.run_groups.Given as goal

abbrev pub invariant-loop-index : goal.invariant-loop-index
invariant-loop-index g l = record {
  works : AllWork l.running;
  same : counts l.running ≡ counts l.fn.running;
  goes : (setup : Setup) → IsSetup setup → HasCounts setup (counts l.fn.running)
      → GroupsGo setup (stand l.fn.running) (take l.index l.budgets) l.made (stand l.running);
}
