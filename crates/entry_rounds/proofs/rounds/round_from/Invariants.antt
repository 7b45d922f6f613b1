use Rattle.std.proofs.Common.{◌≤◌}
use Rattle.entry_rounds.specs.Rounds.{round_of}
use Rattle.entry_rounds.proofs.rounds.round_from.Given as goal

-- the marks so far come before the entry
abbrev pub invariant-loop-round : goal.invariant-loop-round
invariant-loop-round l = l.round ≤ round_of l.marks l.actor l.earlier
