-- What a lab tells of the end of its net.
use Rattle.std.proofs.Common.{◌≡◌, refl, ℕ, ◌+◌, ◌-◌, ◌<◌, List, [], ◌∷◌, length, Some, slice_get, ap, sym, subst, ◌∙◌, arith}
use Rattle.std.specs.Prelude.{take}
use Rattle.std.specs.List.{last_or}
use Rattle.std.proofs.lemmas.Option.{slice_get_within}
use Rattle.std.proofs.Math.Seq.{take-length}
use Rattle.ring_net.specs.declared.entry.JournalEntry.{JournalEntry}
use Rattle.journal_merge.specs.Merges.{AreSorted, Interleaves, entries_by, upto}
use Rattle.journal_merge.proofs.Orders.{sorted_once, merged_upto}
use Rattle.graft_model.specs.Setups.{Setup, IsSetup, peerings_in, groups_in}
use Rattle.graft_model.specs.Parts.{World}
use Rattle.graft_model.specs.First.{first_world}
use Rattle.graft_model.specs.Steps.{Event, Run}
use Rattle.graft_model.specs.Claims.{Unchanged, MadeBeforeBroken, Solves, Transparent}
use Rattle.graft_model.specs.Quiet.{Quiet}
use Rattle.graft_laws.specs.Emptied.{GiveByPlan, EmptyAlone, AreEmptied}
use Rattle.graft_laws.specs.Keeps.{Reached}
use Rattle.bgp_session.specs.Running.{carried}
use Rattle.world_runs.specs.Laws.{RunsAreTransparent}
use Rattle.world_runs.specs.Runs.{RanAs}
use Rattle.world_nodes.specs.Nodes.{own}
use Rattle.world_nodes.specs.Ways.{Way}
use Rattle.real_rounds.specs.Laws.{RoundsAreReal}
use Rattle.real_rounds.specs.Whole.{RealRounds, round_by_round}
use Rattle.real_rounds.proofs.Chain.{rounds_run}
use Rattle.run_clocks.specs.Laws.{WaysAreClocked}
use Rattle.silent_rounds.specs.Laws.{SilentWorldsAreQuiet}
use Rattle.bounded_moves.specs.Laws.{MovesAreBounded}
use Rattle.one_answer.specs.Laws.{SettledRunsHaveOneAnswer}
use Rattle.even_inputs.specs.Laws.{SettledWorldsAreTheSolution}
use Rattle.sure_results.specs.Laws.{SureLaboratoriesHaveResults}
use Rattle.one_answer.specs.Settled.{IsSettled}
use Rattle.graft_actors.specs.Laws.{AreEntriesOf}
use Rattle.world_runs.specs.Marks.{before, IsWorldAtMark}
use Rattle.lab_setup.specs.Setups.{setup_of}
use Rattle.lab_report.specs.declared.lab.RunEnd.{RunEnd}
use Rattle.lab_report.specs.declared.lab.RunEnd.TheVariants.{Settled}
use Rattle.node_configs.specs.Budgets.{budgets_in}
use Rattle.node_configs.proofs.Groups.{each_has_one}
use Rattle.lab_seen.specs.Seen.{Observed}
use Rattle.lab_run.specs.Ends.{HasMarks}
use Rattle.lab_run.specs.Stories.{RunGoes}
use Rattle.lab_run.specs.Runs.{LabsTellOfRuns, HoldsAlong}
use Rattle.lab_run.proofs.Forwards.{WalksAreShort, WalksLeaveThere, forwards_as_solved}
use Rattle.lab_run.proofs.Free.{free_behind}
use Rattle.lab_run.proofs.Behind.{WorldsStand}
use Rattle.lab_run.proofs.Stands.{IsWhole}
use Rattle.lab_run.proofs.Stories.{WayRan, marks_of_run, run_whole, run_ran, settled_quiet, settled_last, same_marks, same_merge, made_there, way_there}

abbrev pub AlwaysUnchanged : Type 0
AlwaysUnchanged = (setup : Setup) (events : List Event) → IsSetup setup → Unchanged setup (first_world setup) events

abbrev pub AlwaysMadeBefore : Type 0
AlwaysMadeBefore = (setup : Setup) (events : List Event) → IsSetup setup → MadeBeforeBroken setup (first_world setup) events

abbrev pub QuietSolves : Type 0
QuietSolves = (setup : Setup) (events : List Event) (w : World) → IsSetup setup → Run setup (first_world setup) events w → Quiet setup w → Solves setup w

abbrev pub AlwaysTransparent : Type 0
AlwaysTransparent = (setup : Setup) (events : List Event) (w : World) (p : ℕ) → IsSetup setup → Run setup (first_world setup) events w
    → p < peerings_in setup → Transparent setup w p

abbrev pub EvacuationsGoByPlan : Type 0
EvacuationsGoByPlan = (setup : Setup) (events : List Event) → IsSetup setup → GiveByPlan setup events

abbrev pub EmptiedAreLeft : Type 0
EmptiedAreLeft = (setup : Setup) (w : World) → IsSetup setup → EmptyAlone setup → Reached setup w → Quiet setup w → AreEmptied setup w.operator

abbrev pub OneAtEachMark : Type 0
OneAtEachMark = (setup : Setup) (journal : List JournalEntry) (mark : List ℕ) (u v : World) → IsSetup setup → IsWorldAtMark setup journal mark u
    → IsWorldAtMark setup journal mark v → v ≡ u

-- Before a mark that has the length of each actor's entries all entries stand.
all_before : (mark : ℕ → ℕ) (es : List JournalEntry) → AreSorted es → ((k : ℕ) → mark k ≡ length (entries_by k es)) → upto mark es ≡ es
all_before mark es sorted whole =
    let front = merged_upto (λ k. entries_by k es) es mark (record { each = λ k. refl; sorted = sorted }) in
    sorted_once (upto mark es) es front.sorted sorted (λ k. front.each k ∙ ap (λ n. take n (entries_by k es)) (whole k) ∙ take-length (entries_by k es))

-- the last item stands at the number of those before it
last_at : (x : List ℕ) (xs : List (List ℕ)) → last_or (Some x) xs ≡ slice_get (x ∷ xs) (length xs)
last_at x [] = refl
last_at x (next ∷ xs) = last_at next xs

-- what is so along the events of every run
holds_along : RunsAreTransparent → AlwaysUnchanged → AlwaysMadeBefore → EvacuationsGoByPlan → (setup : Setup) (events : List Event) (w : World) → IsSetup setup
    → Run setup (first_world setup) events w → HoldsAlong setup events
holds_along transparent unchanged made by_plan setup events w sound run = record {
  transparent = transparent setup events w sound run;
  unchanged = unchanged setup events sound;
  made = made setup events sound;
  emptied = by_plan setup events sound;
}

pub labs_tell : WayRan → RunsAreTransparent → AlwaysUnchanged → AlwaysMadeBefore → QuietSolves → AlwaysTransparent → WalksAreShort → WalksLeaveThere
    → EvacuationsGoByPlan → EmptiedAreLeft
    → OneAtEachMark → RoundsAreReal → WaysAreClocked → SilentWorldsAreQuiet → MovesAreBounded → SettledWorldsAreTheSolution → SettledRunsHaveOneAnswer
    → SureLaboratoriesHaveResults → LabsTellOfRuns
labs_tell way_ran transparent unchanged made_before solves always short leave by_plan left one rounds
    clocked silent bounded answer same result lab a z sound alone ranged soon sure tells = record {
      events = ran.events;
      entries_of = ran.entries_of;
      world = ran.world;
      run = ran.run;
      rises = tells.merged.sorted;
      clocks = clocked (setup_of lab.input) a tells.goes.marked way.0 lab.journal ran.events ran.world sound tells.begins way.1 merged ran.entries_of ran.run;
      observed = observed;
      real = real;
      one = λ mark u v. one (setup_of lab.input) lab.journal mark u v sound;
      last = last;
      marks = marks;
      along = along ran.events ran.world ran.run;
      in_rounds = along (round_by_round real.events (length lab.marks - 1)) (real.world (length lab.marks - 1))
          (rounds_run (setup_of lab.input) lab.input.faults lab.journal lab.marks real (length lab.marks - 1)
          (slice_get_within lab.marks (length lab.marks - 1) marks.last last_mark));
      stalls = λ k more none. silent (setup_of lab.input) lab.input.faults lab.journal lab.marks sound ranged soon real k more none
          (free_behind (setup_of lab.input) lab.journal real.world (budgets_in lab.input) lab.marks lab.rounds lab.end marks k (omega arith));
      moves = bounded (setup_of lab.input) lab.input.faults lab.journal lab.marks sound real;
      quiet = quiet;
      solves = solved;
      answers = λ settled. answer (setup_of lab.input) ran.world sound reached (at_end settled);
      agrees = λ settled timeless even v there ended alike.
          same (setup_of lab.input) ran.world v sound timeless reached there (at_end settled) ended alike even;
      results = λ settled is. result (setup_of lab.input) ran.world sound (sure is) reached (at_end settled);
      forwards = λ settled. forwards_as_solved short leave (setup_of lab.input) ran.world lab sound (solved settled)
          (λ p there. always (setup_of lab.input) ran.events ran.world p sound ran.run there) observed;
      left = λ settled. left (setup_of lab.input) ran.world sound alone reached (quiet settled);
    }
  where
    ran : RanAs own carried (setup_of lab.input) lab.journal z.view
    ran = run_ran way_ran (setup_of lab.input) sound a tells.begins z lab.journal tells.merged
        (budgets_in lab.input) lab.rounds lab.end tells.goes lab.journal tells.merged

    whole : IsWhole (setup_of lab.input) z
    whole = run_whole way_ran (setup_of lab.input) sound a tells.begins z lab.journal tells.merged (budgets_in lab.input) lab.rounds lab.end tells.goes

    reached : Reached (setup_of lab.input) ran.world
    reached = record { events = ran.events; run = ran.run }

    observed : Observed (setup_of lab.input) ran.world lab
    observed = tells.observed ran.world (record { world = (ran.seen, reached); all = whole.size; channels = whole.edges })

    quiet : lab.end ≡ Settled → Quiet (setup_of lab.input) ran.world
    quiet settled = settled_quiet way_ran (setup_of lab.input) sound a tells.begins z lab.journal tells.merged (budgets_in lab.input) lab.rounds
        (subst (λ (e : RunEnd). RunGoes (setup_of lab.input) a (budgets_in lab.input) lab.rounds e z) settled tells.goes) ran.world ran.seen reached

    group_is_last : lab.end ≡ Settled → ran.world.operator.group + 1 ≡ groups_in (setup_of lab.input)
    group_is_last settled = settled_last way_ran (setup_of lab.input) sound a tells.begins z lab.journal tells.merged
        (budgets_in lab.input) lab.rounds (each_has_one lab.input)
        (subst (λ (e : RunEnd). RunGoes (setup_of lab.input) a (budgets_in lab.input) lab.rounds e z) settled tells.goes) ran

    at_end : lab.end ≡ Settled → IsSettled (setup_of lab.input) ran.world
    at_end settled = record { quiet = quiet settled; last = group_is_last settled }

    solved : lab.end ≡ Settled → Solves (setup_of lab.input) ran.world
    solved settled = solves (setup_of lab.input) ran.events ran.world sound ran.run (quiet settled)

    way : (made : List ℕ) × Way (setup_of lab.input) a made tells.goes.marked
    way = (
      made_there way_ran (setup_of lab.input) sound a tells.begins z lab.journal tells.merged (budgets_in lab.input) lab.rounds lab.end tells.goes,
      way_there way_ran (setup_of lab.input) sound a tells.begins z lab.journal tells.merged (budgets_in lab.input) lab.rounds lab.end tells.goes,
    )

    merged : Interleaves tells.goes.marked.view.journal lab.journal
    merged = same_merge way_ran (setup_of lab.input) sound a tells.begins z lab.journal tells.merged (budgets_in lab.input) lab.rounds lab.end tells.goes
        lab.journal tells.merged

    real : RealRounds (setup_of lab.input) lab.input.faults lab.journal lab.marks
    real = subst (λ (ms : List (List ℕ)). RealRounds (setup_of lab.input) lab.input.faults lab.journal ms)
        (sym (tells.marks ∙ same_marks way_ran (setup_of lab.input) sound a tells.begins z lab.journal tells.merged (budgets_in lab.input) lab.rounds lab.end
        tells.goes))
        (rounds (setup_of lab.input) lab.input.faults a tells.goes.marked way.0 lab.journal sound tells.begins tells.fresh way.1 merged)

    stand : WorldsStand (setup_of lab.input) lab.journal lab.marks real.world
    stand k mark w is at = one (setup_of lab.input) lab.journal mark (real.world k) w sound (real.worlds k mark is) at

    marks : HasMarks (setup_of lab.input) lab.journal real.world (budgets_in lab.input) lab.marks lab.rounds lab.end
    marks = subst (λ (ms : List (List ℕ)). HasMarks (setup_of lab.input) lab.journal real.world (budgets_in lab.input) ms lab.rounds lab.end) (sym tells.marks)
        (marks_of_run way_ran (setup_of lab.input) sound a tells.begins z lab.journal tells.merged (budgets_in lab.input) lab.rounds lab.end
        (each_has_one lab.input) tells.goes real.world
        (subst (λ (ms : List (List ℕ)). WorldsStand (setup_of lab.input) lab.journal ms real.world) tells.marks stand))

    last_mark : slice_get lab.marks (length lab.marks - 1) ≡ Some marks.last
    last_mark =
        let count : length lab.marks - 1 ≡ length marks.marks = omega (arith, ap (λ (ms : List (List ℕ)). length ms) marks.is) in
        ap (λ (ms : List (List ℕ)). slice_get ms (length lab.marks - 1)) marks.is ∙ ap (λ (k : ℕ). slice_get (marks.first ∷ marks.marks) k) count
        ∙ sym (last_at marks.first marks.marks) ∙ marks.is_last

    -- Before the last mark all entries stand, so the run leads to the world there.
    last : real.world (length lab.marks - 1) ≡ ran.world
    last = one (setup_of lab.input) lab.journal marks.last ran.world (real.world (length lab.marks - 1)) sound (record {
      events = ran.events;
      entries_of = subst (AreEntriesOf (setup_of lab.input) ran.events)
          (sym (all_before (before marks.last) lab.journal tells.merged.sorted marks.whole)) ran.entries_of;
      run = ran.run;
    }) (real.worlds (length lab.marks - 1) marks.last last_mark)

    along : (events : List Event) (w : World) → Run (setup_of lab.input) (first_world (setup_of lab.input)) events w → HoldsAlong (setup_of lab.input) events
    along events w run = holds_along transparent unchanged made_before by_plan (setup_of lab.input) events w sound run
