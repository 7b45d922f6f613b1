use Rattle.std.proofs.Common.{take, arith}
use Rattle.timeline_view.proofs.ByRound.{rounds_further}
use Rattle.timeline_view.proofs.rounds.by_rounds.Goals as goal

-- one thing more
pub loop-happening-preserved : goal.loop-happening-preserved
loop-happening-preserved c =
    rounds_further c.args.count c.args.all.now c.loop-happening.happening-index _ _ (omega arith)
    (c.in_ok-put.ensures c.args.count (take c.loop-happening.happening-index c.args.all.now) c.loop-happening.invariant)
