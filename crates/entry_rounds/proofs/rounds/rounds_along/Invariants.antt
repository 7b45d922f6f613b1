use Rattle.std.proofs.Common.{◌≡◌, ℕ, map, take, length}
use Rattle.std.specs.List.{enumerate_from}
use Rattle.entry_rounds.specs.Rounds.{round_at}
use Rattle.entry_rounds.proofs.Walks.{HasPassed}
use Rattle.entry_rounds.proofs.rounds.rounds_along.Given as goal

-- the rounds so far are those of the entries so far, and the walk has passed these with each actor
abbrev pub invariant-loop-entry : goal.invariant-loop-entry
invariant-loop-entry l = record {
  found : l.rounds ≡ map (round_at l.marks l.journal) (enumerate_from 0 (take l.entry-index l.journal));
  all_passed : length l.passed ≡ 65536;
  all_known : length l.known ≡ 65536;
  each : (actor : ℕ) → HasPassed l.marks (take l.entry-index l.journal) l.passed l.known actor;
}
