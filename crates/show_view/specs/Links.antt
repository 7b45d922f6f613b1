-- The planned faults whose segments never came.
use Rattle.std.specs.Prelude.{ℕ, ◌≡◌, ◌+◌, ◌-◌, ◌^◌, ◌<◌, ◌==◌, ◌&&◌, Bool, nat_le, nat_lt, List, [], ◌++◌, length, count_by, Option, Some, None}
use Rattle.std.specs.Prelude.{get_or, codes, decimal, if◌then◌else◌}
use Rattle.link_bag.specs.declared.plan.Fault.{Fault}
use Rattle.link_bag.specs.declared.plan.FaultKind.{FaultKind}
use Rattle.link_bag.specs.declared.plan.FaultKind.TheVariants.{Lose, Repeat, Hold, Stray}
use Rattle.ring_net.specs.declared.entry.JournalEntry.{JournalEntry}
use Rattle.tcp_seq.specs.declared.segment.Way.{Way}
use Rattle.tcp_seq.specs.declared.segment.Way.TheVariants.{Home, Remote}
use Rattle.lab_tables.specs.declared.input.LabInput.{LabInput}
use Rattle.lab_report.specs.Report.{line_end, peering_name}
use Rattle.show_view.specs.declared.links.Segments.{Segments}

-- ---- segments

-- the event by which a segment comes into a link: the remote sends it (18), or the far side takes it from a router (19)
abbrev pub entering : Way → ℕ
entering Home = 18
entering Remote = 19

abbrev pub enters : (actor : ℕ) → Way → JournalEntry → Bool
enters actor way e = (e.actor == actor) && (e.kind == entering way)

-- How many segments came into the link of a peering, towards this side. The far sides are the actors behind the routers.
abbrev pub segments_on : (routers : ℕ) → List JournalEntry → (peering : ℕ) → Way → ℕ
segments_on routers journal p way = count_by (enters (routers + p) way) journal

-- ---- as words

abbrev pub way_text : Way → List ℕ
way_text Home = codes "home"
way_text Remote = codes "remote"

abbrev pub kind_text : FaultKind → List ℕ
kind_text Lose = codes "lose"
kind_text Repeat = codes "repeat"
kind_text Hold = codes "hold"
kind_text Stray = codes "stray"

abbrev pub never_came_line : LabInput → Fault → List ℕ
never_came_line input fault = codes "fault " ++ peering_name input fault.peering.0 ++ codes " " ++ way_text fault.way
    ++ codes " segment " ++ decimal fault.segment ++ codes " " ++ kind_text fault.kind ++ codes " never came" ++ line_end

-- A fault has a line where its segment never came. Segments are counted from 1.
abbrev pub fault_line : LabInput → List JournalEntry → Fault → List ℕ
fault_line input journal fault =
    if nat_lt (segments_on (length input.routers) journal fault.peering.0 fault.way) fault.segment then never_came_line input fault else []

-- ---- counted in one walk

-- the peering whose far side an actor is; of more than 256 there are no numbers
abbrev pub peering_at : (routers actor : ℕ) → Option ℕ
peering_at routers actor = if nat_le routers actor && nat_lt (actor - routers) 256 then Some (actor - routers) else None

abbrev pub no_segments : Segments
no_segments = record { home = 0; remote = 0 }

abbrev pub segments_of : (routers : ℕ) → List JournalEntry → (peering : ℕ) → Segments
segments_of routers journal p = record { home = segments_on routers journal p Home; remote = segments_on routers journal p Remote }

-- one event more
abbrev pub with_event : Segments → (kind : ℕ) → Segments
with_event s kind =
    if kind == 18 then record s { home = s.home + 1 } else if kind == 19 then record s { remote = s.remote + 1 } else s

abbrev pub HasRoom : Segments → Type 0
HasRoom s = (s.home < 2 ^ 64 - 1) × (s.remote < 2 ^ 64 - 1)

-- All have room for one more.
abbrev pub HaveRoom : List Segments → Type 0
HaveRoom all = (p : ℕ) → p < 256 → HasRoom (get_or all p no_segments)

-- These are the segments of each peering by a journal.
pub record AreCounted (routers : ℕ) (journal : List JournalEntry) (all : List Segments) : Type 0 where
  pub places : length all ≡ 256
  pub counted : (p : ℕ) → p < 256 → get_or all p no_segments ≡ segments_of routers journal p
