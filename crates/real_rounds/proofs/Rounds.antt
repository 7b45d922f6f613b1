-- All rounds of a way are real.
use Rattle.std.proofs.Common.{◌≡◌, ◌≤◌, ◌<◌, ◌+◌, ◌∙◌, ℕ, List, [], ◌∷◌, ◌++◌, length, get_or, ap, sym, subst, inl, inr, arith}
use Rattle.std.specs.Prelude.{Some, min}
use Rattle.std.specs.List.{AllByRecursion}
use Rattle.std.proofs.Math.Path.{subst⁻¹}
use Rattle.std.proofs.lemmas.Option.{slice_get_within}
use Rattle.link_bag.specs.declared.plan.Fault.{Fault}
use Rattle.ring_net.specs.declared.entry.JournalEntry.{JournalEntry}
use Rattle.ring_net.specs.Deeds.{deeds, entries_of, taken_from}
use Rattle.ring_net.specs.Turns.{ActorDid}
use Rattle.journal_merge.specs.Merges.{Interleaves}
use Rattle.graft_model.specs.Setups.{Setup, IsSetup}
use Rattle.graft_model.specs.Parts.{World}
use Rattle.graft_model.specs.Steps.{Event}
use Rattle.graft_actors.specs.Actors.{ActorName, number_in, IsActor}
use Rattle.graft_actors.specs.Laws.{OneWorldIsSeen}
use Rattle.graft_actors.specs.Seen.{channel_of}
use Rattle.graft_actors.specs.Acts.{OwnPart, acts}
use Rattle.bgp_session.specs.Running.{carried}
use Rattle.world_runs.specs.Marks.{MarksStandForWorlds, IsWorldAtMark}
use Rattle.world_runs.specs.Runs.{Ran}
use Rattle.world_runs.specs.Laws.{ActsAreARun, NothingWasDropped, NobodyWritesToItself}
use Rattle.world_nodes.specs.Fresh.{IsFresh}
use Rattle.world_nodes.specs.Nodes.{own, took, turned}
use Rattle.world_nodes.specs.Ways.{Stand, IsFirstStand}
use Rattle.world_nodes.specs.declared.node.Node.{Node}
use Rattle.real_rounds.proofs.Calls.{CallsSay}
use Rattle.real_rounds.specs.Entries as entries
use Rattle.real_rounds.specs.Entries.{between, is_same_name, sender_of}
use Rattle.real_rounds.specs.Whole.{RealRound, RoundGoes, Drains, RealRounds}
use Rattle.real_rounds.proofs.Channels.{taken_are, count_cons, channel_is}
use Rattle.real_rounds.proofs.Leading as leading
use Rattle.real_rounds.proofs.Leading.{number_below}
use Rattle.real_rounds.proofs.LegActors as legs_actors
use Rattle.real_rounds.proofs.LegActors.{Ticking, TicksAreEarlier}
use Rattle.real_rounds.proofs.LegRuns as leg_runs
use Rattle.real_rounds.proofs.Legs.{Legs, pause_more}
use Rattle.real_rounds.proofs.NodeRounds.{replay_setup}

taken_more : (x : ActorName) (front es : List JournalEntry) → entries.count_taken_from x es ≤ entries.count_taken_from x (front ++ es)
taken_more x [] es = omega arith
taken_more x (e ∷ front) es =
    let ih = taken_more x front es in
    let one = count_cons (λ entry. is_same_name x (sender_of entry)) e (front ++ es) in
    omega (arith, ih, one)

both_rounds : (had net from ring ring2 first second one two : ℕ) → net ≡ had → net ≤ from → min 256 from ≤ first + ring → ring2 ≡ ring
    → ring2 ≤ second → first ≤ one → second ≤ two → min 256 had ≤ one + two
both_rounds had net from ring ring2 first second one two is grows pushed same known first_in second_in =
    omega (arith, is, grows, pushed, same, known, first_in, second_in)

module _ (setup : Setup) (a b : Stand) (begins : IsFirstStand setup a) (d : Node) (legs : Legs setup a b)
    (journal : List JournalEntry) (merge : Interleaves b.view.journal journal) (b_ran : Ran own carried setup b.view)
    (worlds : MarksStandForWorlds own carried) (dropped : NothingWasDropped) (itself : NobodyWritesToItself) (sound : IsSetup setup) where
  -- so many entries at least took an item as the net took
  taken_in : (k : ℕ) (k_in : k < legs.made) (x y : ActorName) → IsActor setup x → IsActor setup y
      → length (taken_from (number_in setup x) ((legs.phase k k_in).notes (number_in setup y)))
      ≤ entries.count_taken_from x (between journal (legs.mark k) (legs.mark (k + 1)) (number_in setup y))
  taken_in k k_in x y x_known y_known =
      let more = pause_more setup (legs.at k) (legs.from k) (legs.pause k k_in) (number_in setup y) in
      let n = leading.size_from setup a b begins legs journal merge b_ran worlds dropped k k_in in
      let y_in = number_below setup y y_known in
      let did : ActorDid own (acts carried) took turned (number_in setup y) (get_or (legs.from k).actors (number_in setup y) d)
      ((legs.from k).clock (number_in setup y)) ((legs.phase k k_in).notes (number_in setup y))
      (get_or (legs.at (k + 1)).actors (number_in setup y) d) ((legs.at (k + 1)).clock (number_in setup y)) =
      (legs.phase k k_in).actors (number_in setup y) d (omega (arith, n, y_in)) in
      let of : (own (get_or (legs.from k).actors (number_in setup y) d)).setup ≡ setup =
      sym (replay_setup (number_in setup y) (own (get_or (legs.from k).actors (number_in setup y) d))
      (own (get_or (legs.at (k + 1)).actors (number_in setup y) d)) (deeds ((legs.phase k k_in).notes (number_in setup y))) did.replay)
      ∙ ap (λ (o : OwnPart). o.setup) (leading.own_at setup a b begins legs journal merge b_ran worlds dropped (k + 1) (omega (arith, k_in)) y y_known d) in
      let kept = leading.leg_kept setup a b begins legs journal merge b_ran worlds dropped k k_in (number_in setup y) more.0 more.1 in
      let size : length (taken_from (number_in setup x) ((legs.phase k k_in).notes (number_in setup y)))
      ≡ entries.count_taken_from x (entries_of ((legs.phase k k_in).notes (number_in setup y))) =
      taken_are setup x (number_in setup y) (own (get_or (legs.from k).actors (number_in setup y) d))
      (own (get_or (legs.at (k + 1)).actors (number_in setup y) d)) ((legs.phase k k_in).notes (number_in setup y)) x_known of did.replay kept.1 in
      subst⁻¹ (λ (es : List JournalEntry).
      length (taken_from (number_in setup x) ((legs.phase k k_in).notes (number_in setup y))) ≤ entries.count_taken_from x es)
      (leading.slice_is setup a b begins legs journal merge b_ran worlds dropped k k_in (number_in setup y) more.0 more.1)
      (let l = taken_more x more.0 (entries_of ((legs.phase k k_in).notes (number_in setup y))) in omega (arith, l, size))

  pub drained : (k : ℕ) → k < legs.made → k + 1 < legs.made
      → Drains setup (leading.world setup a b begins legs journal merge b_ran worlds dropped k)
      (between journal (legs.mark k) (legs.mark (k + 1))) (between journal (legs.mark (k + 1)) (legs.mark ((k + 1) + 1)))
  drained k first second x y x_known y_known =
      let here = leading.world_at setup a b begins legs journal merge b_ran worlds dropped k in
      elim (channel_is setup (legs.at k) here.0 here.2 (leading.edges setup a b begins legs journal merge b_ran worlds dropped k (omega (arith, first)))
      (λ r. itself setup here.0 r sound (record { events = here.1.events; run = here.1.run })) x y x_known y_known) [
        | inl none ↦ omega (arith, none)
        | inr some ↦ both_rounds (length (channel_of here.0 (Some x) (Some y))) (length ((legs.at k).channel (number_in setup x) (number_in setup y)))
            (length ((legs.from k).channel (number_in setup x) (number_in setup y)))
            ((legs.at (k + 1)).in_ring (number_in setup x) (number_in setup y)) ((legs.from (k + 1)).in_ring (number_in setup x) (number_in setup y))
            (length (taken_from (number_in setup x) ((legs.phase k first).notes (number_in setup y))))
            (length (taken_from (number_in setup x) ((legs.phase (k + 1) second).notes (number_in setup y))))
            (entries.count_taken_from x (between journal (legs.mark k) (legs.mark (k + 1)) (number_in setup y)))
            (entries.count_taken_from x (between journal (legs.mark (k + 1)) (legs.mark ((k + 1) + 1)) (number_in setup y)))
            some.1 ((legs.pause k first).grows (number_in setup x) (number_in setup y) some.0)
            ((legs.phase k first).pushed (number_in setup x) (number_in setup y))
            ((legs.pause (k + 1) second).rings (number_in setup x) (number_in setup y))
            ((legs.phase (k + 1) second).known (number_in setup x) (number_in setup y))
            (taken_in k first x y x_known y_known) (taken_in (k + 1) second x y x_known y_known)
      ]

-- ---- all rounds

module _ (law : CallsSay) (setup : Setup) (faults : List Fault) (a b : Stand) (sound : IsSetup setup)
    (begins : IsFirstStand setup a) (fresh : AllByRecursion (IsFresh setup faults) begins.actors) (d : Node)
    (d_fresh : IsFresh setup faults d) (legs : Legs setup a b) (journal : List JournalEntry)
    (merge : Interleaves b.view.journal journal) (b_ran : Ran own carried setup b.view) (worlds : MarksStandForWorlds own carried)
    (dropped : NothingWasDropped) (itself : NobodyWritesToItself) (one : OneWorldIsSeen) (acts_run : ActsAreARun carried) (ticking : Ticking)
    (earlier : TicksAreEarlier law setup faults a b begins fresh d d_fresh legs journal merge b_ran worlds dropped) where
  one_round : (k : ℕ) → k < legs.made → RealRound setup faults (k + 1) (leading.world setup a b begins legs journal merge b_ran worlds dropped k)
      (legs_actors.links_at law setup faults a b begins fresh d d_fresh legs journal merge b_ran worlds dropped k)
      (between journal (legs.mark k) (legs.mark (k + 1)))
      (leading.world setup a b begins legs journal merge b_ran worlds dropped (k + 1))
      (legs_actors.links_at law setup faults a b begins fresh d d_fresh legs journal merge b_ran worlds dropped (k + 1))
  one_round k k_in = record {
    routers = legs_actors.router_did law setup faults a b begins fresh d d_fresh legs journal merge b_ran worlds dropped ticking earlier k k_in;
    far_sides = legs_actors.far_did law setup faults a b begins fresh d d_fresh legs journal merge b_ran worlds dropped k k_in;
    operator = legs_actors.operator_did law setup faults a b begins fresh d d_fresh legs journal merge b_ran worlds dropped k k_in;
  }

  pub rounds_real : RealRounds setup faults journal b.marks
  rounds_real = record {
    world = leading.world setup a b begins legs journal merge b_ran worlds dropped;
    events = leg_runs.leg_events setup a b begins legs journal merge b_ran worlds dropped d sound itself one acts_run;
    links = legs_actors.links_at law setup faults a b begins fresh d d_fresh legs journal merge b_ran worlds dropped;
    worlds = λ k mark is. subst⁻¹ (λ (m : List ℕ). IsWorldAtMark setup journal m (leading.world setup a b begins legs journal merge b_ran worlds dropped k))
        (legs.marks k mark is)
        (leading.world_at setup a b begins legs journal merge b_ran worlds dropped k).1;
    within = λ k mark is. (leading.world_at setup a b begins legs journal merge b_ran worlds dropped k).2.sees.sees.within;
    begins = λ mark is. leg_runs.world_first setup a b begins legs journal merge b_ran worlds dropped;
    empty = legs_actors.links_first law setup faults a b begins fresh d d_fresh legs journal merge b_ran worlds dropped;
    each = λ k mark next is at_next. (
        let size = slice_get_within b.marks (k + 1) next at_next in
        let k_in : k < legs.made = omega (arith, size, legs.count) in
        subst⁻¹ (λ (m : List ℕ). RealRound setup faults (k + 1) (leading.world setup a b begins legs journal merge b_ran worlds dropped k)
        (legs_actors.links_at law setup faults a b begins fresh d d_fresh legs journal merge b_ran worlds dropped k) (between journal m next)
        (leading.world setup a b begins legs journal merge b_ran worlds dropped (k + 1))
        (legs_actors.links_at law setup faults a b begins fresh d d_fresh legs journal merge b_ran worlds dropped (k + 1))) (legs.marks k mark is)
        (subst⁻¹ (λ (m : List ℕ). RealRound setup faults (k + 1) (leading.world setup a b begins legs journal merge b_ran worlds dropped k)
        (legs_actors.links_at law setup faults a b begins fresh d d_fresh legs journal merge b_ran worlds dropped k) (between journal (legs.mark k) m)
        (leading.world setup a b begins legs journal merge b_ran worlds dropped (k + 1)) (legs_actors.links_at law setup faults
        a b begins fresh d d_fresh legs journal merge b_ran worlds dropped (k + 1))) (legs.marks (k + 1) next at_next)
        (one_round k k_in)));
    goes = λ k mark next is at_next. (
        let size = slice_get_within b.marks (k + 1) next at_next in
        let w : World = leading.world setup a b begins legs journal merge b_ran worlds dropped k in
        let u : World = leading.world setup a b begins legs journal merge b_ran worlds dropped (k + 1) in
        let events : List Event = leg_runs.leg_events setup a b begins legs journal merge b_ran worlds dropped d sound itself one acts_run k in
        subst⁻¹ (λ (m : List ℕ). RoundGoes setup w (between journal m next) events u) (legs.marks k mark is)
        (subst⁻¹ (λ (m : List ℕ). RoundGoes setup w (between journal (legs.mark k) m) events u) (legs.marks (k + 1) next at_next)
        (leg_runs.each_goes setup a b begins legs journal merge b_ran worlds dropped d sound itself one acts_run k (omega (arith, size, legs.count)))));
    drains = λ k mark next last is at_next at_last. (
        let size = slice_get_within b.marks (k + 2) last at_last in
        let two : (k + 1) + 1 ≡ k + 2 = omega arith in
        let w : World = leading.world setup a b begins legs journal merge b_ran worlds dropped k in
        let here = drained setup a b begins d legs journal merge b_ran worlds dropped itself sound k
        (omega (arith, size, legs.count)) (omega (arith, size, legs.count)) in
        subst⁻¹ (λ (m : List ℕ). Drains setup w (between journal m next) (between journal next last)) (legs.marks k mark is)
        (subst⁻¹ (λ (m : List ℕ). Drains setup w (between journal (legs.mark k) m) (between journal m last)) (legs.marks (k + 1) next at_next)
        (subst⁻¹ (λ (m : List ℕ). Drains setup w (between journal (legs.mark k) (legs.mark (k + 1))) (between journal (legs.mark (k + 1)) m))
        (legs.marks (k + 2) last at_last)
        (subst (λ (n : ℕ). Drains setup w (between journal (legs.mark k) (legs.mark (k + 1))) (between journal (legs.mark (k + 1)) (legs.mark n))) two here))));
  }
