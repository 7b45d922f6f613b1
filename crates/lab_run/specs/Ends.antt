-- What the marks behind rounds name: another round, the next group, or how the run ends.
use Rattle.std.specs.Prelude.{ℕ, ◌≡◌, ◌≤◌, ◌<◌, ◌+◌, ◌-◌, ◌^◌, ◌⊎◌, min, List, [], ◌∷◌, length, sum, Option, Some, None, slice_index_or}
use Rattle.std.specs.List.{AllByRecursion, last_or}
use Rattle.ring_net.specs.declared.entry.JournalEntry.{JournalEntry}
use Rattle.ring_net.specs.Phases.{View}
use Rattle.journal_merge.specs.Merges.{entries_by}
use Rattle.graft_model.specs.Setups.{Setup}
use Rattle.graft_model.specs.Parts.{World}
use Rattle.graft_model.specs.Quiet.{Quiet}
use Rattle.graft_steps.specs.declared.rest.Pending.{Pending}
use Rattle.world_runs.specs.Marks.{before, GoFollows, NoGoFollows}
use Rattle.world_nodes.specs.Looks.{IsLowest, IsStuckIn, IsPending}
use Rattle.lab_report.specs.declared.lab.RunEnd.{RunEnd}
use Rattle.lab_report.specs.declared.lab.RunEnd.TheVariants.{Settled, Unsettled, StreamFull, JournalFull}
use Rattle.node_configs.specs.declared.budget.Budget.{Budget}
use Rattle.lab_run.specs.declared.end.Verdict.{Verdict}
use Rattle.lab_run.specs.declared.end.Verdict.TheVariants.{GoesOn, IsQuiet, Ends}

-- ---- one mark

-- what is counted at a mark: the entries of all journals, the number of the settle at work, from 1, and how many rounds it has made
pub record MarkCounts : Type 0 where
  pub events : ℕ
  pub step : ℕ
  pub rounds : ℕ

abbrev pub NoneIsStuck : Setup → World → Type 0
NoneIsStuck setup w = IsLowest (IsStuckIn setup w) None

-- no session is stuck, and the journals together aren't full
pub record IsBelowLimits (setup : Setup) (w : World) (c : MarkCounts) : Type 0 where
  pub free : NoneIsStuck setup w
  pub room : c.events < 4194304

-- nothing is left to do, and the settle has made the rounds that it makes at least
pub record MayEnd (setup : Setup) (w : World) (budget : Budget) (c : MarkCounts) : Type 0 where
  pub quiet : Quiet setup w
  pub enough : budget.least ≤ c.rounds

-- the budget is used up, and this is the first thing that is left to do
pub record IsUnsettled (setup : Setup) (w : World) (budget : Budget) (c : MarkCounts) (step rounds : ℕ) (answer : Option Pending) : Type 0 where
  pub below : IsBelowLimits setup w c
  pub made : budget.rounds ≤ c.rounds
  pub first : IsPending setup w answer
  pub step_is : step ≡ c.step
  pub rounds_is : rounds ≡ c.rounds

-- the lowest session that is stuck, and the length, up to the end of a count of 32 bits
pub record IsStreamFull (setup : Setup) (w : World) (peering length : ℕ) : Type 0 where
  pub whole : ℕ
  pub lowest : IsLowest (IsStuckIn setup w) (Some (peering, whole))
  pub length_is : length ≡ min whole (2 ^ 32 - 1)

-- What is decided at a mark, in this order: the stuck session of the lowest peering number ends the run; full journals end it, with the number of
-- their entries, up to the end of a count of 64 bits; the group is at its end; its budget is used up, which ends the run; else another round follows.
abbrev pub Names : Setup → World → Budget → MarkCounts → Verdict → Type 0
Names setup w budget c (Ends (StreamFull peering length)) = IsStreamFull setup w peering.0 length
Names setup w budget c (Ends (JournalFull events)) = NoneIsStuck setup w × (4194304 ≤ c.events) × (events ≡ min c.events (2 ^ 64 - 1))
Names setup w budget c (Ends (Unsettled step rounds pending)) = IsUnsettled setup w budget c step rounds (Some pending)
Names setup w budget c (Ends Settled) = ⊥
Names setup w budget c IsQuiet = IsBelowLimits setup w c × MayEnd setup w budget c
Names setup w budget c GoesOn = IsBelowLimits setup w c × (¬ MayEnd setup w budget c) × (c.rounds < budget.rounds)

-- what the limits of a whole run name, which come first
abbrev pub LimitNames : Setup → World → Budget → MarkCounts → Option RunEnd → Type 0
LimitNames setup w budget c None = IsBelowLimits setup w c
LimitNames setup w budget c (Some end) = Names setup w budget c (Ends end)

-- how many entries the journals of a view have in all
pub record CountsTo {A I : Type 0} (v : View A I) (total : ℕ) : Type 0 where
  pub each : List ℕ
  pub size : length each ≡ length v.actors
  pub lengths : (k : ℕ) → k < length v.actors → slice_index_or each k 0 ≡ length (v.journal k)
  pub total_is : total ≡ sum each

-- ---- all marks of a journal

-- this is decided at the mark of this world
abbrev pub MarkNames : Setup → World → Budget → (step rounds : ℕ) → List ℕ → Verdict → Type 0
MarkNames setup w budget step rounds mark verdict = Names setup w budget (record { events = sum mark; step = step; rounds = rounds }) verdict

-- a group begins behind a mark at once, and no other before the next one
abbrev pub NextBegins : Setup → List JournalEntry → List ℕ → List (List ℕ) → Type 0
NextBegins setup journal mark [] = ⊥
NextBegins setup journal mark (next ∷ marks) = GoFollows setup journal mark next

-- no group begins between a mark and the next one
abbrev pub NoneBegins : Setup → List JournalEntry → List ℕ → List (List ℕ) → Type 0
NoneBegins setup journal mark [] = Unit {0}
NoneBegins setup journal mark (next ∷ marks) = NoGoFollows setup journal mark next

-- At a mark another round is decided on, in which no group begins, and this holds of the marks
-- behind it; or the end of the group, and this holds; or how the run ends, at the last mark.
abbrev pub AtMark : Setup → List JournalEntry → World → Budget → (step rounds : ℕ) → (mark : List ℕ) (marks : List (List ℕ)) → (made : List ℕ) → RunEnd
    → (Further Over : Type 0) → Type 0
AtMark setup journal w budget step rounds mark marks made end Further Over =
    (MarkNames setup w budget step rounds mark GoesOn × NoneBegins setup journal mark marks × Further)
    ⊎ ((MarkNames setup w budget step rounds mark IsQuiet × Over)
    ⊎ (MarkNames setup w budget step rounds mark (Ends end) × (marks ≡ []) × (made ≡ rounds ∷ [])))

-- The marks behind rounds, the first of which is the n-th of all and each of which stands at its world, from the settle of number `step` on, which has
-- made so many rounds, with the budgets of that settle and those behind it. Where a group ends, the next one begins at once and no other in the round
-- behind, or it was the last one and the run is settled. `made` are the rounds of each settle that has begun, from that one on.
abbrev pub MarksName : Setup → List JournalEntry → (world : ℕ → World) → (n step rounds : ℕ) → List Budget → (marks : List (List ℕ)) → (made : List ℕ)
    → RunEnd → Type 0
MarksName setup journal world n step rounds budgets [] made end = ⊥
MarksName setup journal world n step rounds [] (mark ∷ marks) made end = ⊥
MarksName setup journal world n step rounds (budget ∷ []) (mark ∷ marks) made end =
    AtMark setup journal (world n) budget step (rounds + 1) mark marks made end
    (MarksName setup journal world (n + 1) step (rounds + 1) (budget ∷ []) marks made end)
    ((marks ≡ []) × (made ≡ (rounds + 1) ∷ []) × (end ≡ Settled))
MarksName setup journal world n step rounds (budget ∷ next ∷ budgets) (mark ∷ marks) made end =
    AtMark setup journal (world n) budget step (rounds + 1) mark marks made end
    (MarksName setup journal world (n + 1) step (rounds + 1) (budget ∷ next ∷ budgets) marks made end)
    (NextBegins setup journal mark marks × ((later : List ℕ) × (made ≡ (rounds + 1) ∷ later)
    × MarksName setup journal world (n + 1) (step + 1) 0 (next ∷ budgets) marks later end))

-- The marks of a run, each of which stands at its world: the first one of empty journals, and then one behind each round, which name how the run goes
-- on and ends. No group begins in the first round: the first one is at work. Behind the last mark there is no entry.
pub record HasMarks (setup : Setup) (journal : List JournalEntry) (world : ℕ → World)
    (budgets : List Budget) (all : List (List ℕ)) (made : List ℕ) (end : RunEnd) : Type 0 where
  pub first : List ℕ
  pub marks : List (List ℕ)
  pub is : all ≡ first ∷ marks
  pub empty : AllByRecursion (λ n. n ≡ 0) first
  pub begins_none : NoneBegins setup journal first marks
  pub last : List ℕ
  pub is_last : last_or (Some first) marks ≡ Some last
  pub whole : (k : ℕ) → before last k ≡ length (entries_by k journal)
  pub name : MarksName setup journal world 1 1 0 budgets marks made end
