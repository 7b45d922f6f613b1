-- The law of clocks, from the laws of the crates below.
use Rattle.std.proofs.Common.{◌≡◌, ℕ, Bool, true, false, List, [], ◌∷◌, ◌++◌, length, refl, ap, sym, subst, ◌∙◌, arith, inl, inr}
use Rattle.std.specs.Prelude.{◌⊎◌, Option, Some, None}
use Rattle.std.proofs.lemmas.List.{length-map}
use Rattle.ring_net.specs.declared.entry.JournalEntry.{JournalEntry}
use Rattle.ring_net.specs.declared.entry.Stamped.{Stamped}
use Rattle.ring_net.specs.Deeds.{sent_to, taken_from, entries_of}
use Rattle.journal_merge.specs.Merges.{AreSorted, Interleaves}
use Rattle.journal_merge.specs.Growth.{noted_by, RunsTo}
use Rattle.journal_merge.proofs.Pieces.{merge_runs}
use Rattle.graft_model.specs.First.{first_world}
use Rattle.graft_model.specs.Setups.{Setup, IsSetup}
use Rattle.graft_model.specs.Parts.{World}
use Rattle.graft_model.specs.Steps.{Event, Run}
use Rattle.graft_laws.proofs.Runs.{reached_first}
use Rattle.graft_actors.specs.Actors.{Thing, ActorName, Router, FarSide, Operator, actor_at}
use Rattle.graft_actors.specs.Laws.{AreEntriesOf, OneEventHasTheEntry}
use Rattle.graft_actors.specs.Seen.{channel_of}
use Rattle.graft_actors.specs.Items.{thing_of}
use Rattle.graft_actors.specs.Acts.{acts}
use Rattle.bgp_session.specs.Running.{carried}
use Rattle.world_runs.specs.Marks.{is_go}
use Rattle.world_runs.specs.Labs.{IsLab}
use Rattle.world_runs.specs.Runs.{RanAs, Ran}
use Rattle.world_runs.specs.Laws.{AnActIsAStep, NobodyWritesToItself}
use Rattle.world_nodes.specs.Nodes.{Mail, own}
use Rattle.world_nodes.specs.Ways.{Stand, IsFirstStand, Way, Here}
use Rattle.run_clocks.specs.Clocks.{AreClocked, clocked_in}
use Rattle.run_clocks.specs.Laws.{WaysAreClocked}
use Rattle.run_clocks.proofs.Fronts.{Along, IsTimed}
use Rattle.run_clocks.proofs.Supplies.{IsSupplied, run_supplied}
use Rattle.run_clocks.proofs.Following.{AreInOrder, all_follow}
use Rattle.run_clocks.proofs.Pacing.{all_timed}
use Rattle.run_clocks.proofs.Worlds.{run_twins}
use Rattle.run_clocks.proofs.Ways.{IsPaced, journals_are, way_paced}

-- nothing is on its way in the first world
nothing_first : (setup : Setup) (from to : Option ActorName) → channel_of (first_world setup) from to ≡ []
nothing_first setup None to = refl
nothing_first setup (Some (Router q)) None = refl
nothing_first setup (Some (Router q)) (Some (Router r)) = refl
nothing_first setup (Some (Router q)) (Some (FarSide p)) = refl
nothing_first setup (Some (Router q)) (Some Operator) = refl
nothing_first setup (Some (FarSide p)) None = refl
nothing_first setup (Some (FarSide p)) (Some (Router r)) = refl
nothing_first setup (Some (FarSide p)) (Some (FarSide q)) = refl
nothing_first setup (Some (FarSide p)) (Some Operator) = refl
nothing_first setup (Some Operator) None = refl
nothing_first setup (Some Operator) (Some (Router r)) = refl
nothing_first setup (Some Operator) (Some (FarSide p)) = refl
nothing_first setup (Some Operator) (Some Operator) = refl

first_of : (setup : Setup) (events : List Event) (w v : World) → AreEntriesOf setup events [] → Run setup w events v → v ≡ w
first_of setup [] w v are run = run
first_of setup (event ∷ events) w v are run = absurd are

module _ (runs : (setup : Setup) (a b : Stand) (rounds : List ℕ) → IsSetup setup → IsFirstStand setup a → Way setup a rounds b → Ran own carried setup b.view)
    (act_is_a_step : AnActIsAStep carried) (itself : NobodyWritesToItself)
    (one_event : OneEventHasTheEntry) where
  module _ (setup : Setup) (a b : Stand) (made : List ℕ) (journal : List JournalEntry) (sound : IsSetup setup) (begins : IsFirstStand setup a)
      (way : Way setup a made b) (merge : Interleaves b.view.journal journal) where
    p : IsPaced setup a begins b.view
    p = way_paced setup a begins (λ c rounds w. runs setup a c rounds sound begins w) b made way

    -- the net at its beginning
    at_first : RanAs own carried setup [] a.view
    at_first = runs setup a a (0 ∷ []) sound begins Here [] (record { each = λ k. sym (begins.new.journals k); sorted = tt })

    first_is : at_first.world ≡ first_world setup
    first_is = first_of setup at_first.events (first_world setup) at_first.world at_first.entries_of at_first.run

    first_lab : IsLab carried setup at_first.seen.lab (first_world setup)
    first_lab = subst (λ (w : World). IsLab carried setup at_first.seen.lab w) first_is at_first.seen.sees

    nothing_there : (x y : ℕ) → length (at_first.seen.lab.channel x y) ≡ 0
    nothing_there x y = sym (length-map (at_first.seen.lab.channel x y) (thing_of carried setup))
        ∙ ap (λ (ts : List Thing). length ts) (first_lab.sees.channels x y ∙ nothing_first setup (actor_at setup x) (actor_at setup y))

    done : RunsTo own (acts carried) a.view at_first.seen.lab p.levels p.notes journal b.view
    done = merge_runs own (acts carried) a.view b.view p.levels p.notes journal at_first.seen.lab p.grew
        (record { each = λ k. merge.each k ∙ journals_are setup a begins b.view p k; sorted = merge.sorted }) at_first.seen.is

    timed : Along (IsTimed is_go) [] done.events
    timed = (all_timed own (acts carried) is_go a.view b.view p done.events (subst (λ es. AreSorted es) (sym done.same) merge.sorted) done.each).0

    supplied : Along IsSupplied [] done.events
    supplied = run_supplied (acts carried) done.events [] at_first.seen.lab done.last
        (λ x y. (let none : length (at_first.seen.lab.channel x y) ≡ 0 = nothing_there x y in omega (arith, none))) done.run

    in_order : AreInOrder setup done.events
    in_order x y = by_edge (a.view.edge x y) refl
      where
        by_edge : (t : Bool) → a.view.edge x y ≡ t → (taken_from x (noted_by y done.events) ≡ []) ⊎
            ((left : List (Stamped Mail)) × (sent_to y (noted_by x done.events) ≡ taken_from x (noted_by y done.events) ++ left))
        by_edge false e = inl (ap (λ ns. taken_from x ns) (done.each y) ∙ p.grew.apart x y e)
        by_edge true e = inr (
          b.view.channel x y,
          ap (λ (xs : List (Stamped Mail)). xs ++ sent_to y (noted_by x done.events)) (sym (begins.new.channels x y))
              ∙ done.stamps x y e,
        )

    clocked_run : (events : List Event) (w : World) → AreEntriesOf setup events (entries_of done.events) → (run : Run setup (first_world setup) events w)
        → AreClocked (clocked_in setup (first_world setup) events (entries_of done.events) w run)
    clocked_run events w are run = all_follow setup done.events (clocked_in setup (first_world setup) events (entries_of done.events) w run)
        (run_twins carried act_is_a_step itself one_event setup sound events done.events at_first.seen.lab done.last (first_world setup) w
        (reached_first setup) first_lab are run done.run) in_order timed supplied

  pub all_clocked : WaysAreClocked
  all_clocked setup a b made journal events w sound begins way merge =
      subst (λ (es : List JournalEntry). AreEntriesOf setup events es → (run : Run setup (first_world setup) events w)
      → AreClocked (clocked_in setup (first_world setup) events es w run))
      (done setup a b made journal sound begins way merge).same (clocked_run setup a b made journal sound begins way merge events w)
