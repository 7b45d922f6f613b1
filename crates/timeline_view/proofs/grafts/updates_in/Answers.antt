use Rattle.std.proofs.Common.{◌<◌, length, arith}
use Rattle.timeline_view.specs.Grafts.{update_of}
use Rattle.timeline_view.proofs.Counted.{counts_further}
use Rattle.timeline_view.proofs.Numbered.{read_at}
use Rattle.timeline_view.proofs.grafts.updates_in.Goals as goal

-- one event more
pub loop-happening-preserved : goal.loop-happening-preserved
loop-happening-preserved c =
    let here = c.args.here.now in
    let i = c.loop-happening.happening-index in
    let below : i < length here = omega arith in
    counts_further (λ h. update_of c.args.lab.now c.args.remote h.event) here i _ _ _ below (read_at here i _ below) c.update_of-update.ensures
    (c.in_ok-counts.ensures _ c.loop-happening.invariant)
