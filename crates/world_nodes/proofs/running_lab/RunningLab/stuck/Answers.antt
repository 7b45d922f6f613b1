use Rattle.std.proofs.Common.{◌∙◌, sym}
use Rattle.std.proofs.lemmas.Result.{IfOk-weaker}
use Rattle.ring_net.specs.Shown.{view}
use Rattle.world_nodes.specs.Looks.{as_numbers}
use Rattle.world_nodes.proofs.CourseSteps.{size_in, stuck_world}
use Rattle.world_nodes.proofs.running_lab.RunningLab.stuck.Goals as goal

pub returns : goal.returns
returns c =
    let running = c.args.self.now in
    record {
      lowest = IfOk-weaker c.stuck_up_to.result _ _ (λ answer low setup w counts at.
          stuck_world setup (view running.net) w at.0 (size_in setup running.routers running.peerings _ counts c.requires.works.size) c.count.result
          (c.count.ensures ∙ sym c.requires.works.size) (as_numbers answer) low) c.stuck_up_to.ensures;
    }
