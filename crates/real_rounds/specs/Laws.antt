-- The law of rounds.
use Rattle.std.specs.Prelude.{ℕ, List}
use Rattle.std.specs.List.{AllByRecursion}
use Rattle.link_bag.specs.declared.plan.Fault.{Fault}
use Rattle.ring_net.specs.declared.entry.JournalEntry.{JournalEntry}
use Rattle.journal_merge.specs.Merges.{Interleaves}
use Rattle.graft_model.specs.Setups.{Setup, IsSetup}
use Rattle.world_nodes.specs.Ways.{Stand, IsFirstStand, Way}
use Rattle.world_nodes.specs.Fresh.{IsFresh}
use Rattle.real_rounds.specs.Whole.{RealRounds}

-- Whatever way a laboratory's net went, all its rounds are real, if its actors had done nothing at the beginning.
abbrev pub RoundsAreReal : Type 0
RoundsAreReal = (setup : Setup) (faults : List Fault) (a b : Stand) (made : List ℕ) (journal : List JournalEntry) → IsSetup setup
    → (begins : IsFirstStand setup a) → AllByRecursion (IsFresh setup faults) begins.actors
    → Way setup a made b → Interleaves b.view.journal journal → RealRounds setup faults journal b.marks
