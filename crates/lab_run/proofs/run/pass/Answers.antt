use Rattle.std.proofs.Common.{true, false, refl}
use Rattle.world_nodes.specs.RunningLabs.{stand, counts}
use Rattle.lab_run.proofs.Loops.{passes}
use Rattle.lab_run.proofs.run.pass.Goals as goal

pub returns-then-branch-clause-passes : goal.returns-then-branch-clause-passes
returns-then-branch-clause-passes c = λ setup has. passes setup (counts c.args.running.now) (stand c.args.running.now)
    (stand c.go.new.self) c.in_ok-go.field-0 true has c.if-branch.true c.in_ok-go.ensures.pause
    (λ w at. c.in_ok-go.ensures.held setup w has at)

pub returns-else-branch-clause-passes : goal.returns-else-branch-clause-passes
returns-else-branch-clause-passes c = λ setup has. (
  refl,
  passes setup (counts c.args.running.now) (stand c.args.running.now)
      (stand c.go.new.self) c.in_ok-go.field-0 false has c.if-branch.false c.in_ok-go.ensures.pause (λ w at. c.in_ok-go.ensures.held setup w has at),
)
