use Rattle.std.proofs.Common.{◌≡◌, take, sum_by}
use Rattle.timeline_view.specs.Sessions.{withdrawn_after}
use Rattle.timeline_view.proofs.sessions.withdrawn_in.Given as goal

-- the count so far is that of the grafts so far
abbrev pub invariant-loop-graft : goal.invariant-loop-graft
invariant-loop-graft l = l.count ≡ sum_by (withdrawn_after l.lab l.all) (take l.graft-index l.log)
