use Rattle.std.proofs.Common.{refl, ◌∙◌}
use Rattle.world_nodes.specs.RunningLabs.{stand}
use Rattle.lab_run.specs.declared.end.Verdict.TheVariants.{IsQuiet, Ends}
use Rattle.lab_run.specs.Stories.{NoRound}
use Rattle.lab_run.proofs.Loops.{round_more, group_ends, counts_back}
use Rattle.lab_run.proofs.run.run_group.Goals as goal

pub loop-made-init : goal.loop-made-init
loop-made-init g c = record { works = c.requires.works; same = refl; goes = λ setup sound has. NoRound }

pub loop-made-preserved : goal.loop-made-preserved
loop-made-preserved g c = record {
  works = c.in_ok-run_round.ensures.works;
  same = c.in_ok-run_round.ensures.counts ∙ c.loop-made.invariant.same;
  goes = λ setup sound has. round_more setup c.args.budget c.args.step (stand c.args.running.now)
      (stand c.loop-made.running) (stand c.run_round.new.running) c.loop-made.made
      (c.loop-made.invariant.goes setup sound has) c.in_ok-run_round.field-0
      (c.in_ok-run_round.ensures.names setup sound (counts_back setup _ _ c.loop-made.invariant.same has)) c.in-GoesOn.is;
}

pub returns-in-IsQuiet-clause-goes : goal.returns-in-IsQuiet-clause-goes
returns-in-IsQuiet-clause-goes g c = λ setup sound has. group_ends setup c.args.budget c.args.step
    (stand c.args.running.now) (stand c.loop-made.running) (stand c.run_round.new.running) c.loop-made.made
    (c.loop-made.invariant.goes setup sound has) c.in_ok-run_round.field-0
    (c.in_ok-run_round.ensures.names setup sound (counts_back setup _ _ c.loop-made.invariant.same has)) IsQuiet c.in-IsQuiet.is

pub returns-in-Ends-clause-goes : goal.returns-in-Ends-clause-goes
returns-in-Ends-clause-goes g c = λ setup sound has. group_ends setup c.args.budget c.args.step
    (stand c.args.running.now) (stand c.loop-made.running) (stand c.run_round.new.running) c.loop-made.made
    (c.loop-made.invariant.goes setup sound has) c.in_ok-run_round.field-0
    (c.in_ok-run_round.ensures.names setup sound (counts_back setup _ _ c.loop-made.invariant.same has)) (Ends c.in-Ends.end) c.in-Ends.is
