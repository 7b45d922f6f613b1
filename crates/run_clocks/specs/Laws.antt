-- The law of clocks.
use Rattle.std.specs.Prelude.{ℕ, List}
use Rattle.ring_net.specs.declared.entry.JournalEntry.{JournalEntry}
use Rattle.journal_merge.specs.Merges.{Interleaves}
use Rattle.graft_model.specs.Setups.{Setup, IsSetup}
use Rattle.graft_model.specs.Parts.{World}
use Rattle.graft_model.specs.First.{first_world}
use Rattle.graft_model.specs.Steps.{Event, Run}
use Rattle.graft_actors.specs.Laws.{AreEntriesOf}
use Rattle.world_nodes.specs.Ways.{Stand, IsFirstStand, Way}
use Rattle.run_clocks.specs.Clocks.{AreClocked, clocked_in}

-- Whatever way a laboratory's net went, the events of its merged journal are clocked.
abbrev pub WaysAreClocked : Type 0
WaysAreClocked = (setup : Setup) (a b : Stand) (made : List ℕ) (journal : List JournalEntry) (events : List Event) (w : World) → IsSetup setup
    → IsFirstStand setup a → Way setup a made b
    → Interleaves b.view.journal journal → AreEntriesOf setup events journal → (run : Run setup (first_world setup) events w)
    → AreClocked (clocked_in setup (first_world setup) events journal w run)
