-- The laws of silent rounds.
use Rattle.std.specs.Prelude.{ℕ, ◌≡◌, ◌<◌, ◌+◌, List, [], None, length}
use Rattle.link_bag.specs.declared.plan.Fault.{Fault}
use Rattle.ring_net.specs.declared.entry.JournalEntry.{JournalEntry}
use Rattle.graft_model.specs.Setups.{Setup, IsSetup, peerings_in}
use Rattle.graft_model.specs.Quiet.{Quiet}
use Rattle.graft_laws.specs.Ranges.{IsInRange}
use Rattle.world_nodes.specs.Looks.{IsLowest, IsStuckIn}
use Rattle.real_rounds.specs.Whole.{RealRounds}
use Rattle.silent_rounds.specs.Silence.{AreSilent, AreShort}

-- After seven silent rounds no link holds a segment, in either direction.
abbrev pub SilentLinksAreEmpty : Type 0
SilentLinksAreEmpty = (setup : Setup) (faults : List Fault) (journal : List JournalEntry) (marks : List (List ℕ)) → AreShort faults
    → (real : RealRounds setup faults journal marks)
    → (k p : ℕ) → k + 7 < length marks → p < peerings_in setup → AreSilent real.events k 7
    → (((real.world k).far p).homeward ≡ []) × (((real.world k).far p).remoteward ≡ [])

-- If the eight rounds after a mark have no event, and no session is stuck at the next mark, nothing is left to do at the mark before those rounds.
abbrev pub SilentWorldsAreQuiet : Type 0
SilentWorldsAreQuiet = (setup : Setup) (faults : List Fault) (journal : List JournalEntry) (marks : List (List ℕ)) → IsSetup setup → IsInRange setup
    → AreShort faults
    → (real : RealRounds setup faults journal marks) → (k : ℕ) → k + 8 < length marks → AreSilent real.events k 8
    → IsLowest (IsStuckIn setup (real.world (k + 1))) None → Quiet setup (real.world k)
