-- The run of a round, and the items that it takes: `RoundGoes` without one field, and cases in which only that field is false.
use Rattle.std.specs.Prelude.{ℕ, ◌≢◌, ◌+◌, ◌==◌, if◌then◌else◌, List, [], ◌∷◌}
use Rattle.ring_net.specs.declared.entry.JournalEntry.{JournalEntry}
use Rattle.journal_merge.specs.Merges.{Interleaves}
use Rattle.graft_model.specs.Setups.{Setup, SettleStep}
use Rattle.graft_model.specs.Parts.{World}
use Rattle.graft_model.specs.Evacuations.{with_gifts}
use Rattle.graft_model.specs.First.{first_world}
use Rattle.graft_model.specs.Codes.{router_code}
use Rattle.graft_model.specs.declared.event.RouterEvent.TheVariants.{Admit}
use Rattle.graft_model.specs.declared.event.OperatorEvent.TheVariants.{Go}
use Rattle.graft_model.specs.Steps.{Event, ByOperator, Run}
use Rattle.graft_actors.specs.Laws.{AreEntriesOf}
use Rattle.real_rounds.specs.Whole.{Slices, RoundGoes}
use Rattle.rounds_worked.specs.Marks.{lone, once, coded_entry, begun_entry, begun_second}

-- ---- all fields but one

pub data RoundField : Type 0 where
  Merged : RoundField
  EntriesOf : RoundField
  Runs : RoundField
  -- no field is left out
  NoField : RoundField

pub record RoundGoesBut (but : RoundField) (setup : Setup) (start : World) (slices : Slices) (events : List Event) (end : World) : Type 0 where
  pub entries : List JournalEntry
  pub merged : but ≢ Merged → Interleaves slices entries
  pub entries_of : but ≢ EntriesOf → AreEntriesOf setup events entries
  pub run : but ≢ Runs → Run setup start events end

-- this field is false, and all others hold
abbrev pub FalseAloneInRound : RoundField → Setup → World → Slices → List Event → World → Type 0
FalseAloneInRound but setup start slices events end = RoundGoesBut but setup start slices events end × ¬ RoundGoes setup start slices events end

-- ---- groups that begin in one round

-- a script of three groups; and the world after a group has begun
abbrev pub thrice : Setup
thrice = lone (SettleStep ∷ SettleStep ∷ SettleStep ∷ [])

abbrev pub next_group : World → World
next_group w = record w { operator = with_gifts thrice (record w.operator { group = w.operator.group + 1 }) }

abbrev pub first_group : World
first_group = first_world thrice

abbrev pub last_group : World
last_group = next_group (next_group first_group)

abbrev pub two_gos : List Event
two_gos = ByOperator Go ∷ ByOperator Go ∷ []

-- ---- the entries of an actor in a round

-- no actor wrote an entry, or only the operator or only the router did
abbrev pub none_noted : Slices
none_noted k = []

abbrev pub slices_of_one : ℕ → List JournalEntry → Slices
slices_of_one actor entries k = if k == actor then entries else []

-- two groups begin, in the order of their clocks, or the other way round
abbrev pub groups_in_order : List JournalEntry
groups_in_order = begun_entry ∷ begun_second ∷ []

abbrev pub out_of_order : List JournalEntry
out_of_order = begun_second ∷ begun_entry ∷ []

-- ---- what is taken from a channel

-- an order is on its way to the router; and the router's entry of taking one
abbrev pub ordered : World
ordered = record (first_world once) { orders = λ r. record { graft = 1; peering = 0; target = 0 } ∷ [] }

abbrev pub admitted : JournalEntry
admitted = coded_entry 1 0 (router_code (Admit 1))
