-- The law of bounded moves.
use Rattle.std.specs.Prelude.{ℕ, List, length}
use Rattle.link_bag.specs.declared.plan.Fault.{Fault}
use Rattle.ring_net.specs.declared.entry.JournalEntry.{JournalEntry}
use Rattle.graft_model.specs.Setups.{Setup, IsSetup}
use Rattle.real_rounds.specs.Whole.{RealRounds}
use Rattle.bounded_moves.specs.Moves.{MovesEnd}

-- In real rounds, moves end.
abbrev pub MovesAreBounded : Type 0
MovesAreBounded = (setup : Setup) (faults : List Fault) (journal : List JournalEntry) (marks : List (List ℕ)) → IsSetup setup
    → (real : RealRounds setup faults journal marks) → MovesEnd real.events real.world (length marks)
