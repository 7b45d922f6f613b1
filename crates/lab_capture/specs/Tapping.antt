-- What an auditor that takes an entry shows of it.
use Rattle.std.specs.Prelude.{ℕ, ◌≡◌, ◌≤◌, List, length, All, Option}
use Rattle.tcp_seq.specs.declared.segment.Segment.{Segment}
use Rattle.ring_net.specs.declared.entry.JournalEntry.{JournalEntry}
use Rattle.graft_model.specs.declared.code.Code.{Code}
use Rattle.graft_model.specs.Parts.{World}
use Rattle.graft_model.specs.First.{first_world}
use Rattle.graft_model.specs.Steps.{Event, Run}
use Rattle.graft_actors.specs.Items.{segment_of}
use Rattle.graft_actors.specs.Laws.{AreEntriesOf, IsEntryOf}
use Rattle.lab_tables.specs.declared.input.LabInput.{LabInput}
use Rattle.lab_setup.specs.Setups.{setup_of}
use Rattle.run_auditor.specs.States.{StandsFor}
use Rattle.run_auditor.specs.Steps.{TakesEntry}
use Rattle.run_auditor.specs.declared.auditor.Auditor.{Auditor}
use Rattle.run_auditor.specs.declared.step.Step.{Step as Answer}
use Rattle.lab_capture.specs.Taps.{packet_at, tapped, tapped_along}
use Rattle.lab_capture.specs.Captures.{timed}
use Rattle.lab_capture.specs.declared.timed.Timed.{Timed}

-- as long as IPv4's length field can say
abbrev pub IsShort : List ℕ → Type 0
IsShort octets = length octets ≤ 65535

-- the packet of a segment of the program, if it has room in one
abbrev pub packet_of : LabInput → Segment → Option (List ℕ)
packet_of input g = packet_at input g.peering.0 (g.way, segment_of (setup_of input) g)

-- the kind and the arguments of an entry
abbrev pub code_in : JournalEntry → Code
code_in entry = record { kind = entry.kind; a = entry.a; b = entry.b; c = entry.c }

-- The auditor has taken an entry, with this answer. The packet is that of the entry's event between any worlds for which the auditor stood before and
-- stands now.
pub record IsTapped (input : LabInput) (entry : JournalEntry) (old : Auditor) (packet : Option (List ℕ)) (new : Auditor) : Type 0 where
  pub answer : Answer
  pub takes : TakesEntry entry old answer new
  pub packet_is : (event : Event) (w v : World) → IsEntryOf (setup_of input) event entry → StandsFor old w → StandsFor new v
      → packet ≡ tapped input event w v

-- If these entries are those of a run, these are the packets that are tapped along it.
abbrev pub AreOfRun : LabInput → (rounds : List ℕ) → List JournalEntry → List Timed → Type 0
AreOfRun input rounds entries packets =
    (events : List Event) (w : World) (run : Run (setup_of input) (first_world (setup_of input)) events w) → AreEntriesOf (setup_of input) events entries
    → packets ≡ timed rounds (tapped_along input (setup_of input) (first_world (setup_of input)) events w run)

-- If they are those of a run, the auditor stands for the world to which it leads.
abbrev pub StandsBehind : LabInput → List JournalEntry → Auditor → Type 0
StandsBehind input entries auditor =
    (events : List Event) (w : World) → Run (setup_of input) (first_world (setup_of input)) events w → AreEntriesOf (setup_of input) events entries
    → StandsFor auditor w

-- no packet is longer than IPv4's length field can say
abbrev pub AllShort : List Timed → Type 0
AllShort = All (λ p. IsShort p.octets)
