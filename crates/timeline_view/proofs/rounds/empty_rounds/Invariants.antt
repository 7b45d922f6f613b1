use Rattle.std.proofs.Common.{[]}
use Rattle.timeline_view.specs.Walks.{AreRounds}
use Rattle.timeline_view.proofs.rounds.empty_rounds.Given as goal

-- as many empty rounds as were made
abbrev pub invariant-loop-round : goal.invariant-loop-round
invariant-loop-round l = AreRounds l._round [] l.rounds.items
