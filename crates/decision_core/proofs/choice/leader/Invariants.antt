use Rattle.std.proofs.Common.{◌≡◌, take, Some}
use Rattle.std.specs.List.{fold}
use Rattle.decision_core.specs.Search.{leads, pick}
use Rattle.decision_core.proofs.choice.leader.Given as goal

-- the leader of the first rank and of those so far
abbrev pub invariant-loop-rank : goal.invariant-loop-rank
invariant-loop-rank l = Some l.leader ≡ fold (pick leads) (Some l.initial.leader) (take l.rank-index l.others)
