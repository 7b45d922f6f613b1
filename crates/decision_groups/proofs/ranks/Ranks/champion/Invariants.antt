use Rattle.std.proofs.Common.{◌≡◌, take}
use Rattle.decision_groups.specs.Groups.{champion_of}
use Rattle.decision_groups.proofs.ranks.Ranks.champion.Given as goal

-- the champion of the ranks so far
abbrev pub invariant-loop-from : goal.invariant-loop-from
invariant-loop-from l = l.champion ≡ champion_of (take l.from-index l.self)
