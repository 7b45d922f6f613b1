use Rattle.std.proofs.Common.{ℕ, List, [], refl, sym, ◌∙◌, subst, arith}
use Rattle.world_nodes.specs.RunningLabs.{stand}
use Rattle.lab_run.specs.Stories.{GroupsGo, NoGroup}
use Rattle.lab_run.proofs.Loops.{groups_more, run_ends, counts_back, none_found}
use Rattle.lab_run.proofs.run.run_groups.Goals as goal

pub loop-index-init : goal.loop-index-init
loop-index-init g c = record {
  works = c.requires.works;
  same = refl;
  goes =
      λ setup sound has. subst (λ (ns : List ℕ). GroupsGo setup (stand c.args.running.now) [] ns (stand c.args.running.now)) (sym c.requires.none) NoGroup;
}

pub returns-in-Some-clause-goes : goal.returns-in-Some-clause-goes
returns-in-Some-clause-goes g c = λ setup sound has. (
    let x = c.in_ok-end.ensures.goes setup sound (counts_back setup _ _ c.loop-index.invariant.same has) in
    run_ends setup (stand c.args.running.now) c.args.budgets.now c.loop-index.index
    (omega (arith, c.loop-index-test.true)) _ _ refl c.in_ok-step.step c.in_ok-step.ensures
    (stand c.loop-index.running) (stand c.run_one.new.running) c.loop-index.made c.run_one.new.made x.0
    (c.loop-index.invariant.goes setup sound has) x.1 c.in_ok-end.field-0 x.2 c.in-Some.end c.in-Some.is
    )

pub loop-index-preserved : goal.loop-index-preserved
loop-index-preserved g c = record {
  works = c.in_ok-end.ensures.works;
  same = c.in_ok-end.ensures.counts ∙ c.loop-index.invariant.same;
  goes = λ setup sound has. (let x = c.in_ok-end.ensures.goes setup sound (counts_back setup _ _ c.loop-index.invariant.same has) in
      groups_more setup (stand c.args.running.now) c.args.budgets.now c.loop-index.index
      (omega (arith, c.loop-index-test.true)) _ _ refl c.in_ok-step.step c.in_ok-step.ensures
      (stand c.loop-index.running) (stand c.run_one.new.running) c.loop-index.made c.run_one.new.made x.0
      (c.loop-index.invariant.goes setup sound has) x.1 c.in_ok-end.field-0 x.2 (none_found c.in_ok-end.field-0 c.in_default.not-Some));
}
