use Rattle.std.proofs.Common.{◌∙◌, ap, length, sym, subst}
use Rattle.std.specs.List.{AllByRecursion}
use denote.Param.Send.{sendable}
use Rattle.ring_net.specs.Shown.{view}
use Rattle.ring_net.specs.Phases.{View}
use Rattle.world_nodes.specs.Nodes.{Mail, Works}
use Rattle.world_nodes.specs.declared.node.Node.{Node}
use Rattle.world_nodes.proofs.SendSessions.{item}
use Rattle.world_nodes.proofs.Sends.{node}
use Rattle.world_nodes.proofs.CourseSteps.{always_ok, phase_works}
use Rattle.world_nodes.proofs.running_lab.RunningLab.round.Goals as goal

pub phase-requires-send-A : goal.phase-requires-send-A
phase-requires-send-A g c κs within = let n = node in search sendable depth 40

pub phase-requires-send-A-Item : goal.phase-requires-send-A-Item
phase-requires-send-A-Item g c κs within = let i = item in search sendable depth 40

pub returns-clause-works : goal.returns-clause-works
returns-clause-works g c =
    let running = c.args.self.now in
    let phase = c.in_ok-phase.ensures.phase in
    always_ok c.mark.result (record {
      size = ap (λ (v : View Node Mail). length v.actors) c.mark.ensures.view ∙ phase.size ∙ c.requires.works.size;
      each = subst (λ (v : View Node Mail). AllByRecursion Works v.actors)
          (sym c.mark.ensures.view) (phase_works (view running.net) (view c.phase.new.self) phase);
    })
