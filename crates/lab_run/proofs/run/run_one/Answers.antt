use Rattle.std.proofs.lemmas.Result.{IfOk-weaker}
use Rattle.world_nodes.specs.RunningLabs.{stand}
use Rattle.lab_run.proofs.Loops.{limit_answers, pass_answers, counts_back}
use Rattle.lab_run.proofs.run.run_one.Goals as goal

pub returns-in-Some-clause-goes : goal.returns-in-Some-clause-goes
returns-in-Some-clause-goes g c = λ setup sound has. (
  c.in_ok-end.end.rounds,
  c.in_ok-push.ensures.ok,
  limit_answers setup c.args.budget c.args.step (stand c.args.running.now) (stand c.run_group.new.running)
      c.in_ok-end.end.rounds c.in_ok-end.end.limit (c.in_ok-end.ensures.goes setup sound has) c.in-Some.limit c.in-Some.is,
)

pub returns-in-None-clause-goes : goal.returns-in-None-clause-goes
returns-in-None-clause-goes g c = IfOk-weaker c.pass.result _ _ (λ end passes setup sound has. (
  c.in_ok-end.end.rounds,
  c.in_ok-push.ensures.ok,
  pass_answers setup c.args.budget c.args.step (stand c.args.running.now) (stand c.run_group.new.running) c.in_ok-end.end.rounds
      c.in_ok-end.end.limit (c.in_ok-end.ensures.goes setup sound has) (stand c.pass.new.running) end c.in-None.is
      (passes setup (counts_back setup _ _ c.in_ok-end.ensures.counts has)),
)) c.pass.ensures.passes
