use Rattle.std.proofs.Common.{◌≡◌, take, sum_by}
use Rattle.timeline_view.specs.Sessions.{notices}
use Rattle.timeline_view.proofs.sessions.all_notices.Given as goal

-- the count so far is that of the sessions so far
abbrev pub invariant-loop-view : goal.invariant-loop-view
invariant-loop-view l = l.count ≡ sum_by notices (take l.view-index l.sessions)
