use Rattle.std.proofs.Common.{◌≡◌, ◌∙◌, ◌+◌, ◌-◌, subst, arith}
use Rattle.std.proofs.lemmas.Result.{IfOk-weaker}
use Rattle.ring_net.specs.Shown.{view}
use Rattle.ring_net.specs.Phases.{Between}
use Rattle.graft_actors.specs.Acts.{acts}
use Rattle.bgp_session.specs.Running.{carried}
use Rattle.world_nodes.specs.Nodes.{own, paused}
use Rattle.world_nodes.proofs.CourseSteps.{if_on, pause_held, pause_size, pause_works, size_in}
use Rattle.world_nodes.proofs.running_lab.RunningLab.go.Goals as goal

pub returns-clause-pause : goal.returns-clause-pause
returns-clause-pause c =
    let running = c.args.self.now in
    let last : c.count-last.result - 1 ≡ running.routers + running.peerings = omega (arith, c.count-last.ensures) in
    IfOk-weaker c.between.result _ _ (λ answer did. record {
      level = view c.level.new.self;
      levelled = c.level.ensures.level;
      between = subst (λ k. Between own (acts carried) paused k (view c.level.new.self) (view c.between.new.self) answer) last did;
      marks = c.between.ensures.marks ∙ c.level.ensures.marks;
    }) c.between.ensures.between

pub returns-clause-held : goal.returns-clause-held
returns-clause-held c =
    let running = c.args.self.now in
    IfOk-weaker c.between.result _ _ (λ answer did setup w counts at.
    pause_held setup (view running.net) (view c.level.new.self) (view c.between.new.self) w answer
    (c.count-last.result - 1) at.0 (size_in setup running.routers running.peerings _ counts c.requires.works.size)
    (omega (arith, c.count-last.ensures, counts.routers, counts.peerings)) c.level.ensures.level did) c.between.ensures.between

pub returns-clause-works : goal.returns-clause-works
returns-clause-works c =
    let running = c.args.self.now in
    if_on _ c.between.result (λ answer did. record {
      size = pause_size (c.count-last.result - 1) (view running.net) (view c.level.new.self) (view c.between.new.self) answer c.level.ensures.level did
          ∙ c.requires.works.size;
      each = pause_works (c.count-last.result - 1) (view running.net) (view c.level.new.self)
          (view c.between.new.self) answer c.level.ensures.level did c.requires.works.each;
    }) c.between.ensures.between
