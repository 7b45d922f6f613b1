use Rattle.std.proofs.Common.{◌≡◌, take, sum_by}
use Rattle.timeline_view.specs.Sessions.{further_opens}
use Rattle.timeline_view.proofs.sessions.all_further_opens.Given as goal

-- the count so far is that of the sessions so far
abbrev pub invariant-loop-view : goal.invariant-loop-view
invariant-loop-view l = l.count ≡ sum_by further_opens (take l.view-index l.sessions)
