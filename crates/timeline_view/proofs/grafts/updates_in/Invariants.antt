use Rattle.std.proofs.Common.{take}
use Rattle.std.specs.List.{filter_map}
use Rattle.timeline_view.specs.Grafts.{update_of}
use Rattle.timeline_view.specs.Walks.{CountsUpdates}
use Rattle.timeline_view.proofs.grafts.updates_in.Given as goal

-- the counts so far are those of what happened so far
abbrev pub invariant-loop-happening : goal.invariant-loop-happening
invariant-loop-happening l = CountsUpdates (filter_map (λ h. update_of l.lab l.remote h.event) (take l.happening-index l.here)) l.counts
