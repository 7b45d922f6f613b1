use Rattle.std.proofs.Common.{take}
use Rattle.timeline_view.specs.Walks.{AreRounds}
use Rattle.timeline_view.proofs.rounds.by_rounds.Given as goal

-- what happened so far stands in its rounds
abbrev pub invariant-loop-happening : goal.invariant-loop-happening
invariant-loop-happening l = AreRounds l.count (take l.happening-index l.all) l.rounds.items
