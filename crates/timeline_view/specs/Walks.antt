-- What a walk over a run keeps at hand.
use Rattle.std.specs.Prelude.{◌≡◌, ℕ, ◌<◌, ◌==◌, Bool, ◌&&◌, ◌||◌, nat_lt, List, [], length, count_by, slice_index, slice_index_or}
use Rattle.bgp_types.specs.declared.message.Update.{Update}
use Rattle.ring_net.specs.declared.entry.JournalEntry.{JournalEntry}
use Rattle.lab_report.specs.declared.lab.Lab.{Lab}
use Rattle.story_view.specs.Story.{adds_to}
use Rattle.timeline_view.specs.declared.event.Happening.{Happening}
use Rattle.timeline_view.specs.declared.grafts.UpdateCounts.{UpdateCounts}
use Rattle.timeline_view.specs.Grafts.{announced_in, withdrawn_in}
use Rattle.timeline_view.specs.Rounds.{in_round}

-- the kinds of entries by which sessions, and words of them, go between routers: Leave, Land, TurnBack, Return and Clear (12 to 16), and Confirm (33)
abbrev pub is_move_kind : ℕ → Bool
is_move_kind kind = (nat_lt 11 kind && nat_lt kind 17) || (kind == 33)

abbrev pub is_move : JournalEntry → Bool
is_move e = is_move_kind e.kind

-- how many of the entries so far added to the story of each session
pub record AreCounts (lab : Lab) (before : List JournalEntry) (counts : List ℕ) : Type 0 where
  pub size : length counts ≡ length lab.sessions
  pub each : (p : ℕ) → p < length counts → slice_index counts p ≡ count_by (adds_to p) before

-- what happened so far, by rounds
pub record AreRounds (count : ℕ) (all : List Happening) (rounds : List (List Happening)) : Type 0 where
  pub size : length rounds ≡ count
  pub each : (r : ℕ) → r < length rounds → slice_index_or rounds r [] ≡ in_round r all

-- how many UPDATEs these are, and how many prefixes they announce and withdraw
pub record CountsUpdates (these : List Update) (counts : UpdateCounts) : Type 0 where
  pub updates : counts.updates ≡ length these
  pub announced : counts.announced ≡ announced_in these
  pub withdrawn : counts.withdrawn ≡ withdrawn_in these
