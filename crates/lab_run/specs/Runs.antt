-- What a lab says of its run.
use Rattle.std.specs.Prelude.{ℕ, ◌≡◌, ◌<◌, ◌+◌, ◌-◌, true, List, length}
use Rattle.std.specs.List.{AllByRecursion}
use Rattle.link_bag.specs.declared.plan.Fault.{Fault}
use Rattle.journal_merge.specs.Merges.{AreSorted, Interleaves}
use Rattle.graft_model.specs.Setups.{Setup, IsSetup}
use Rattle.graft_model.specs.Parts.{World}
use Rattle.graft_model.specs.First.{first_world}
use Rattle.graft_model.specs.Steps.{Event, Run}
use Rattle.graft_model.specs.Claims.{Unchanged, MadeBeforeBroken, Solves}
use Rattle.graft_model.specs.Quiet.{Quiet}
use Rattle.graft_laws.specs.Emptied.{GiveByPlan, EmptyAlone, AreEmptied}
use Rattle.graft_actors.specs.Laws.{AreEntriesOf}
use Rattle.world_runs.specs.Marks.{IsWorldAtMark}
use Rattle.world_runs.specs.Labs.{actors_in}
use Rattle.world_runs.specs.Runs.{TransparentThroughout}
use Rattle.world_nodes.specs.Edges.{has_channel}
use Rattle.world_nodes.specs.Fresh.{IsFresh}
use Rattle.world_nodes.specs.Looks.{IsWorldAt}
use Rattle.world_nodes.specs.Ways.{Stand, IsFirstStand}
use Rattle.run_clocks.specs.Clocks.{AreClocked, clocked_in}
use Rattle.real_rounds.specs.Whole.{RealRounds, round_by_round}
use Rattle.graft_laws.specs.Ranges.{IsInRange}
use Rattle.one_answer.specs.Laws.{IsTheOneAnswer}
use Rattle.even_inputs.specs.Laws.{IsTheAnswer}
use Rattle.sure_results.specs.Results.{IsSure, HasResults}
use Rattle.sure_inputs.specs.Sure.{is_sure}
use Rattle.bounded_moves.specs.Moves.{MovesEnd}
use Rattle.silent_rounds.specs.Silence.{AreSilent, AreShort}
use Rattle.lab_setup.specs.Setups.{setup_of}
use Rattle.lab_report.specs.declared.lab.Lab.{Lab}
use Rattle.lab_report.specs.declared.lab.RunEnd.TheVariants.{Settled}
use Rattle.node_configs.specs.Budgets.{budgets_in}
use Rattle.lab_seen.specs.Seen.{Observed}
use Rattle.lab_run.specs.Ends.{HasMarks}
use Rattle.lab_run.specs.Forwards.{Forwards}
use Rattle.lab_run.specs.Stories.{RunGoes}

-- What is so along events from the first world, at every moment: each peering is transparent; a refused graft returned its session unchanged; a source
-- cleared the routes of a session that had left only with its target's routes at hand; and each evacuate step gave the sessions of its router to the
-- others by the plan, as its group began.
pub record HoldsAlong (setup : Setup) (events : List Event) : Type 0 where
  pub transparent : TransparentThroughout setup events
  pub unchanged : Unchanged setup (first_world setup) events
  pub made : MadeBeforeBroken setup (first_world setup) events
  pub emptied : GiveByPlan setup events

-- The journal is that of a run of the input's laboratory from its first world. It rises by clock, and at one clock by actor; and each clock is one
-- above the greater of its actor's last one and the stamp of what is taken, and that of a group's beginning one above all. The lab is what is seen of
-- the world that the run leads to. In each round, from mark to mark, a run leads from world to world, in which each actor did what a round asks of it;
-- one world stands at each mark, and the last one's is that to which the run leads. The marks say of their worlds how the run went on and how it ended.
-- The claims hold along the journal, and along the events round by round. Where eight rounds behind a mark have no event, nothing is left to do at it.
-- A session that is frozen has landed or come back four rounds later, where few items are in its source's channels. Where it is settled, nothing is
-- left to do in the last world, and the tables solve the decision equations (RFC 4271, section 9.1) for the placement after the accepted grafts. What
-- became of the grafts tells where the sessions are; where no session has a timer and the input's MEDs are even (RFC 4271, section 9.1.2.2 (c)), the
-- tables and sessions are those that the laboratory has for these places; where only the MEDs that are left at the end are even, they are those of every
-- settled run in which the same became of the grafts; and where the input is sure, its script alone tells what became of the grafts.
-- A packet from whichever router meets at most two routers, and leaves only where the session of that peering is placed; and what evacuate steps gave
-- to a router is there, unless it was refused, though not for lack of room, or moved again.
pub record RanIn (setup : Setup) (lab : Lab) : Type 0 where
  pub events : List Event
  pub entries_of : AreEntriesOf setup events lab.journal
  pub world : World
  pub run : Run setup (first_world setup) events world
  pub rises : AreSorted lab.journal
  pub clocks : AreClocked (clocked_in setup (first_world setup) events lab.journal world run)
  pub observed : Observed setup world lab
  pub real : RealRounds setup lab.input.faults lab.journal lab.marks
  pub one : (mark : List ℕ) (u v : World) → IsWorldAtMark setup lab.journal mark u → IsWorldAtMark setup lab.journal mark v → v ≡ u
  pub last : real.world (length lab.marks - 1) ≡ world
  pub marks : HasMarks setup lab.journal real.world (budgets_in lab.input) lab.marks lab.rounds lab.end
  pub along : HoldsAlong setup events
  pub in_rounds : HoldsAlong setup (round_by_round real.events (length lab.marks - 1))
  pub stalls : (k : ℕ) → k + 8 < length lab.marks → AreSilent real.events k 8 → Quiet setup (real.world k)
  pub moves : MovesEnd real.events real.world (length lab.marks)
  pub quiet : lab.end ≡ Settled → Quiet setup world
  pub solves : lab.end ≡ Settled → Solves setup world
  pub answers : lab.end ≡ Settled → IsTheAnswer setup world
  pub agrees : lab.end ≡ Settled → IsTheOneAnswer setup world
  pub results : lab.end ≡ Settled → is_sure lab.input ≡ true → HasResults setup world.operator
  pub forwards : lab.end ≡ Settled → Forwards lab setup world
  pub left : lab.end ≡ Settled → AreEmptied setup world.operator

-- the same of the laboratory of the lab's own input
abbrev pub RanLab : Lab → Type 0
RanLab lab = RanIn (setup_of lab.input) lab

-- ---- why

-- the net stands at its beginning, with actors that have done nothing and a plan of these faults
pub record BeginsFresh (setup : Setup) (faults : List Fault) (a : Stand) : Type 0 where
  pub begins : IsFirstStand setup a
  pub fresh : AllByRecursion (IsFresh setup faults) begins.actors

-- the net stands at this world of a run, with all actors and channels of the laboratory
pub record IsNetOf (setup : Setup) (z : Stand) (w : World) : Type 0 where
  pub world : IsWorldAt setup z w
  pub all : length z.view.actors ≡ actors_in setup
  pub channels : (m n : ℕ) → z.view.edge m n ≡ has_channel setup m n

-- The net of an input's laboratory went from its beginning to its end, and the lab tells of that end.
pub record TellsOf (lab : Lab) (a z : Stand) : Type 0 where
  pub begins : IsFirstStand (setup_of lab.input) a
  pub fresh : AllByRecursion (IsFresh (setup_of lab.input) lab.input.faults) begins.actors
  pub goes : RunGoes (setup_of lab.input) a (budgets_in lab.input) lab.rounds lab.end z
  pub marks : lab.marks ≡ z.marks
  pub merged : Interleaves z.view.journal lab.journal
  pub observed : (w : World) → IsNetOf (setup_of lab.input) z w → Observed (setup_of lab.input) w lab

-- such a lab says what its run was
abbrev pub LabsTellOfRuns : Type 0
LabsTellOfRuns = (lab : Lab) (a z : Stand) → IsSetup (setup_of lab.input) → EmptyAlone (setup_of lab.input) → IsInRange (setup_of lab.input)
    → AreShort lab.input.faults → (is_sure lab.input ≡ true → IsSure (setup_of lab.input)) → TellsOf lab a z → RanLab lab
