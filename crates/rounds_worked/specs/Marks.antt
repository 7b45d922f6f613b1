-- Marks of small laboratories: `HasMarks` without one field, and cases in which only that field is false.
use Rattle.std.specs.Prelude.{ℕ, ◌≡◌, ◌≢◌, ◌==◌, if◌then◌else◌, List, [], ◌∷◌, length, Some}
use Rattle.std.specs.List.{AllByRecursion, last_or}
use Rattle.ring_net.specs.declared.entry.JournalEntry.{JournalEntry}
use Rattle.journal_merge.specs.Merges.{entries_by}
use Rattle.graft_model.specs.Setups.{Setup, RouterSetup, ScriptStep, SettleStep}
use Rattle.graft_model.specs.Parts.{World}
use Rattle.graft_model.specs.First.{first_world}
use Rattle.graft_model.specs.declared.code.Code.{Code}
use Rattle.graft_model.specs.declared.event.RouterEvent.TheVariants.{Hear}
use Rattle.graft_model.specs.declared.event.OperatorEvent.TheVariants.{Note, Go}
use Rattle.graft_model.specs.Codes.{router_code, operator_code}
use Rattle.world_runs.specs.Marks.{before}
use Rattle.lab_report.specs.declared.lab.RunEnd.{RunEnd}
use Rattle.node_configs.specs.declared.budget.Budget.{Budget}
use Rattle.lab_run.specs.Ends.{NoneBegins, MarksName, HasMarks}

-- ---- all fields but one

pub data MarksField : Type 0 where
  Is : MarksField
  Empty : MarksField
  BeginsNone : MarksField
  IsLast : MarksField
  Whole : MarksField
  Name : MarksField
  -- no field is left out
  NoField : MarksField

pub record HasMarksBut (but : MarksField) (setup : Setup) (journal : List JournalEntry) (world : ℕ → World)
    (budgets : List Budget) (all : List (List ℕ)) (made : List ℕ) (end : RunEnd) : Type 0 where
  pub first : List ℕ
  pub marks : List (List ℕ)
  pub is : but ≢ Is → all ≡ first ∷ marks
  pub empty : but ≢ Empty → AllByRecursion (λ n. n ≡ 0) first
  pub begins_none : but ≢ BeginsNone → NoneBegins setup journal first marks
  pub last : List ℕ
  pub is_last : but ≢ IsLast → last_or (Some first) marks ≡ Some last
  pub whole : but ≢ Whole → (k : ℕ) → before last k ≡ length (entries_by k journal)
  pub name : but ≢ Name → MarksName setup journal world 1 1 0 budgets marks made end

-- this field is false, and all others hold
abbrev pub FalseAloneInMarks : MarksField → Setup → List JournalEntry → (ℕ → World) → List Budget → List (List ℕ) → List ℕ → RunEnd → Type 0
FalseAloneInMarks but setup journal world budgets all made end = HasMarksBut but setup journal world budgets all made end
    × ¬ HasMarks setup journal world budgets all made end

-- ---- laboratories

-- home AS 65000, one router without networks, and no peering: the router is actor 0, and the operator actor 1
abbrev pub lone_router : RouterSetup
lone_router = record { identifier = 0x0AFF0001; room = 1; costs = []; networks = []; policies = [] }

abbrev pub lone : List ScriptStep → Setup
lone steps = record { home_as = 65000; routers = lone_router ∷ []; peerings = []; steps = steps }

-- the script ends one group, or two
abbrev pub once : Setup
once = lone (SettleStep ∷ [])

abbrev pub twice : Setup
twice = lone (SettleStep ∷ SettleStep ∷ [])

-- nothing is left to do in its first world; here an item is on its way
abbrev pub busy : World → World
busy w = record w { says = λ p. 0 ∷ [] }

-- the world at each mark is the first one; or an item is on its way at one of them
abbrev pub calm : Setup → ℕ → World
calm setup k = first_world setup

abbrev pub busy_at : ℕ → Setup → ℕ → World
busy_at mark setup k = if k == mark then busy (first_world setup) else first_world setup

-- the budget of a settle that names no rounds; of one that makes at least two; and of one that may make one
abbrev pub usual : Budget
usual = record { rounds = 2048; least = 0 }

abbrev pub patient : Budget
patient = record { rounds = 2048; least = 2 }

abbrev pub one : Budget
one = record { rounds = 1; least = 0 }

-- ---- entries

-- an entry of an actor with this code
abbrev pub coded_entry : (clock actor : ℕ) → Code → JournalEntry
coded_entry clock actor code = record { clock = clock; actor = actor; kind = code.kind; a = code.a; b = code.b; c = code.c }

-- the router hears something; the operator begins a group; the operator notes an outcome, and begins a group after it
abbrev pub hear_entry : JournalEntry
hear_entry = coded_entry 1 0 (router_code (Hear 0))

abbrev pub begun_entry : JournalEntry
begun_entry = coded_entry 1 1 (operator_code Go)

abbrev pub note_entry : JournalEntry
note_entry = coded_entry 1 1 (operator_code (Note 0))

abbrev pub begun_second : JournalEntry
begun_second = coded_entry 2 1 (operator_code Go)

-- ---- marks: the numbers of entries of the router and of the operator

abbrev pub mark_of : ℕ → ℕ → List ℕ
mark_of r o = r ∷ o ∷ []

-- of one round, or two, without entries; and of two rounds, in the second of which the operator writes one entry, or two
abbrev pub one_round : List (List ℕ)
one_round = mark_of 0 0 ∷ mark_of 0 0 ∷ []

abbrev pub two_rounds : List (List ℕ)
two_rounds = mark_of 0 0 ∷ mark_of 0 0 ∷ mark_of 0 0 ∷ []

abbrev pub go_behind : List (List ℕ)
go_behind = mark_of 0 0 ∷ mark_of 0 0 ∷ mark_of 0 1 ∷ []

abbrev pub two_behind : List (List ℕ)
two_behind = mark_of 0 0 ∷ mark_of 0 0 ∷ mark_of 0 2 ∷ []
