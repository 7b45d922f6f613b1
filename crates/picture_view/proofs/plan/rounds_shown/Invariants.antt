use Rattle.std.proofs.Common.{◌≡◌, filter}
use Rattle.std.specs.List.{range_with_len}
use Rattle.picture_view.specs.Plans.{is_shown}
use Rattle.picture_view.proofs.plan.rounds_shown.Given as goal

-- those so far that have room
abbrev pub invariant-loop-round : goal.invariant-loop-round
invariant-loop-round l = l.rounds ≡ filter (is_shown l.points l.starts l.last) (range_with_len 0 l.round)
