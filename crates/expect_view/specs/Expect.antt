-- What a run was expected to come to: which expectations hold of it, and what is said of each.
use Rattle.std.specs.Prelude.{ℕ, ◌+◌, ◌==◌, Bool, true, false, ◌&&◌, not, List, ◌++◌, map, length, count_by, Option, Some, None}
use Rattle.std.specs.Prelude.{option_map, slice_get, codes, decimal, if◌then◌else◌}
use Rattle.std.specs.List.{flat_map, enumerate_from, find, list_all}
use Rattle.std.specs.Str.{bytes_eq}
use Rattle.bgp_types.specs.declared.rank.From.{From}
use Rattle.bgp_types.specs.Prefixes.{PrefixValue, same_prefix}
use Rattle.bgp_story.specs.States.{state_of}
use Rattle.graft_steps.specs.declared.log.GraftEntry.{GraftEntry}
use Rattle.graft_steps.specs.declared.log.GraftStage.{GraftStage}
use Rattle.lab_keys.specs.Kinds.{first_of}
use Rattle.lab_tables.specs.declared.expectation.ExpectedValue.{ExpectedValue}
use Rattle.lab_tables.specs.declared.expectation.ExpectedValue.TheVariants.{Outcome, At, State, Heard, Told, Best}
use Rattle.lab_tables.specs.declared.input.LabInput.{LabInput}
use Rattle.lab_report.specs.declared.lab.Lab.{Lab}
use Rattle.lab_report.specs.declared.lab.Place.{Place}
use Rattle.lab_report.specs.declared.lab.Place.TheVariants.{Held, Moving}
use Rattle.lab_report.specs.declared.lab.RouterTable.{RouterTable}
use Rattle.lab_report.specs.declared.lab.RunEnd.{RunEnd}
use Rattle.lab_report.specs.declared.lab.RunEnd.TheVariants.{Settled}
use Rattle.lab_report.specs.declared.lab.SessionView.{SessionView}
use Rattle.lab_report.specs.Report.{router_name, from_text, state_text, stage_text, line_end}
use Rattle.expect_view.specs.declared.verdict.Difference.{Difference}

-- ---- what is read off a run

-- how far the graft of a number is; numbers that no graft has are in no log
abbrev pub stage_of : List GraftEntry → (graft : ℕ) → Option GraftStage
stage_of log graft = option_map (λ g. g.stage) (find (λ g. g.graft == graft) log)

-- where a router's best route to a prefix comes from
abbrev pub source_of : Option RouterTable → PrefixValue → Option From
source_of None prefix = None
source_of (Some table) prefix = option_map (λ b. b.from) (find (λ b. same_prefix prefix b.prefix) table.best)

-- ---- values as the report writes them; `none` is what it doesn't have

abbrev pub nothing : List ℕ
nothing = codes "none"

abbrev pub stage_value : Option GraftStage → List ℕ
stage_value None = nothing
stage_value (Some stage) = stage_text stage

-- a session that is on its way is at no router
abbrev pub place_value : LabInput → Option Place → List ℕ
place_value input None = nothing
place_value input (Some (Held router)) = router_name input router.0
place_value input (Some Moving) = codes "moving"

abbrev pub session_value : (SessionView → List ℕ) → Option SessionView → List ℕ
session_value value None = nothing
session_value value (Some view) = value view

abbrev pub source_value : LabInput → Option From → List ℕ
source_value input None = nothing
source_value input (Some from) = from_text input from

-- what an expectation wants
abbrev pub wanted_value : LabInput → ExpectedValue → List ℕ
wanted_value input (Outcome graft outcome) = outcome
wanted_value input (At peering router) = router_name input router.0
wanted_value input (State peering state) = state_text state
wanted_value input (Heard peering count) = decimal count
wanted_value input (Told peering count) = decimal count
wanted_value input (Best router prefix from) = source_value input from

-- what the run came to
abbrev pub got_value : Lab → ExpectedValue → List ℕ
got_value lab (Outcome graft outcome) = stage_value (stage_of lab.log graft)
got_value lab (At peering router) = place_value lab.input (slice_get lab.placement peering.0)
got_value lab (State peering state) = session_value (λ view. state_text (state_of view.story.lines)) (slice_get lab.sessions peering.0)
got_value lab (Heard peering count) = session_value (λ view. decimal view.heard) (slice_get lab.sessions peering.0)
got_value lab (Told peering count) = session_value (λ view. decimal view.told) (slice_get lab.sessions peering.0)
got_value lab (Best router prefix from) = source_value lab.input (source_of (slice_get lab.tables router.0) prefix)

-- ---- which expectations hold

abbrev pub is_held_by : (router : ℕ) → Option Place → Bool
is_held_by router (Some (Held other)) = other.0 == router
is_held_by router place = false

-- The run has the value that is wanted: the same router holds the session, and else the report writes the same.
abbrev pub is_got : Lab → ExpectedValue → Bool
is_got lab (At peering router) = is_held_by router.0 (slice_get lab.placement peering.0)
is_got lab wanted = bytes_eq (got_value lab wanted) (wanted_value lab.input wanted)

-- an expectation holds where the run has each value that it wants
abbrev pub holds : Lab → List ExpectedValue → Bool
holds lab expectation = list_all (is_got lab) expectation

abbrev pub all_hold : Lab → Bool
all_hold lab = list_all (holds lab) lab.input.expects

-- ---- what is said of one

-- the key under which a value is wanted
abbrev pub key_text : ExpectedValue → List ℕ
key_text (Outcome graft outcome) = codes "outcome"
key_text (At peering router) = codes "at"
key_text (State peering state) = codes "state"
key_text (Heard peering count) = codes "heard"
key_text (Told peering count) = codes "told"
key_text (Best router prefix from) = codes "best"

-- the key, what is wanted and what the run came to
abbrev pub compared : Lab → ExpectedValue → Difference
compared lab wanted = record { key = key_text wanted; wanted = wanted_value lab.input wanted; got = got_value lab wanted }

abbrev pub difference_of : Lab → ExpectedValue → Option Difference
difference_of lab wanted = if is_got lab wanted then None else Some (compared lab wanted)

-- the first key under which the run has another value
abbrev pub difference : Lab → List ExpectedValue → Option Difference
difference lab expectation = first_of (map (difference_of lab) expectation)

abbrev pub verdict_line : (number : ℕ) → Option Difference → List ℕ
verdict_line number None = codes "ok " ++ decimal number ++ line_end
verdict_line number (Some d) =
    codes "failed " ++ decimal number ++ codes " wanted " ++ d.key ++ codes " " ++ d.wanted ++ codes " got " ++ d.got ++ line_end

-- expectations are numbered from 1
abbrev pub expectation_line : Lab → ℕ × List ExpectedValue → List ℕ
expectation_line lab x = verdict_line (x.0 + 1) (difference lab x.1)

-- ---- the whole

abbrev pub failed_count : Lab → ℕ
failed_count lab = count_by (λ expectation. not (holds lab expectation)) lab.input.expects

abbrev pub counts_line : (expectations failed : ℕ) → List ℕ
counts_line expectations failed = codes "expectations " ++ decimal expectations ++ codes " failed " ++ decimal failed ++ line_end

-- a line for each expectation, and how many there are and how many don't hold
abbrev pub test_text : Lab → List ℕ
test_text lab =
    flat_map (expectation_line lab) (enumerate_from 0 lab.input.expects) ++ counts_line (length lab.input.expects) (failed_count lab)

abbrev pub is_settled : RunEnd → Bool
is_settled Settled = true
is_settled end = false

-- 9 where the run is settled and an expectation doesn't hold; else the status of the run
abbrev pub test_status : (of_run : ℕ) → RunEnd → (all_hold : Bool) → ℕ
test_status of_run end all_hold = if is_settled end && not all_hold then 9 else of_run
