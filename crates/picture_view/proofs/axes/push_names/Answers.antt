use Rattle.picture_view.specs.Axes.{names_before}
use Rattle.picture_view.proofs.Ranges.{listed_more}
use Rattle.picture_view.proofs.axes.push_names.Goals as goal

-- one sixteen more
pub loop-sixteen-preserved : goal.loop-sixteen-preserved
loop-sixteen-preserved c =
    listed_more (names_before c.args.input.now c.args.plan.now) c.loop-sixteen.sixteen _ _ _ c.loop-sixteen.invariant c.in_ok-push_names_before.ensures
