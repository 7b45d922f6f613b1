-- A leg of a way is a run from the world at its mark to the one at the next mark.
use Rattle.std.proofs.Common.{◌≡◌, ◌≤◌, ◌<◌, ◌+◌, ◌∙◌, ℕ, Bool, true, false, List, [], ◌∷◌, ◌++◌, length, map, refl, ap, sym, subst, inl, inr, arith}
use Rattle.std.specs.Prelude.{◌⊎◌, Some}
use Rattle.std.proofs.Math.Path.{subst⁻¹}
use Rattle.ring_net.specs.declared.entry.JournalEntry.{JournalEntry}
use Rattle.ring_net.specs.Deeds.{entries_of}
use Rattle.ring_net.specs.Phases.{View}
use Rattle.journal_merge.specs.Merges.{Interleaves, upto}
use Rattle.journal_merge.proofs.Pieces.{phase_grows}
use Rattle.graft_model.specs.First.{first_world}
use Rattle.graft_model.specs.Setups.{Setup, IsSetup}
use Rattle.graft_model.specs.Parts.{World}
use Rattle.graft_model.specs.Steps.{Event, Run}
use Rattle.graft_laws.specs.Keeps.{Reached}
use Rattle.graft_laws.proofs.Runs.{reached_run}
use Rattle.graft_actors.specs.Actors.{ActorName, actor_at}
use Rattle.graft_actors.specs.Laws.{AreEntriesOf, OneWorldIsSeen}
use Rattle.graft_actors.specs.Seen.{part_of, channel_of}
use Rattle.graft_actors.proofs.Numbers.{of_number}
use Rattle.graft_actors.specs.Items.{thing_of}
use Rattle.graft_actors.specs.Acts.{OwnPart, acts}
use Rattle.bgp_session.specs.Running.{carried}
use Rattle.world_runs.specs.Marks.{before, MarksStandForWorlds, IsWorldAtMark}
use Rattle.world_runs.specs.Labs.{actors_in, net_of}
use Rattle.world_runs.specs.Runs.{IsSeenAs, Ran}
use Rattle.world_runs.specs.Laws.{ActsAreARun, NobodyWritesToItself, NothingWasDropped}
use Rattle.world_nodes.specs.Edges.{has_channel}
use Rattle.world_nodes.specs.Nodes.{Mail, own, took, turned}
use Rattle.world_nodes.specs.Ways.{Stand, IsFirstStand}
use Rattle.world_nodes.specs.declared.node.Node.{Node}
use Rattle.real_rounds.specs.Entries.{between}
use Rattle.real_rounds.specs.Whole.{RoundGoes}
use Rattle.world_nodes.proofs.Seen.{silent}
use Rattle.real_rounds.proofs.Leading as leading
use Rattle.real_rounds.proofs.Leading.{number_below}
use Rattle.real_rounds.proofs.Legs.{Legs}
use Rattle.real_rounds.proofs.Joins.{below_or_past, IsAhead, level_ahead}
use Rattle.real_rounds.proofs.RunsBetween.{RunFrom, run_then, merge_between, phase_runs}

-- ---- a net is seen as one world on the way of a run

module _ (one : OneWorldIsSeen) (setup : Setup) (v : View Node Mail) (d : Node)
    (size : length v.actors ≡ actors_in setup) (edges : (x y : ℕ) → v.edge x y ≡ has_channel setup x y) (w u : World)
    (first : IsSeenAs own carried setup v w) (second : IsSeenAs own carried setup v u)
    (first_itself : (r : ℕ) → w.mesh r r ≡ []) (second_itself : (r : ℕ) → u.mesh r r ≡ []) where
  parts_there : (n : ℕ) (x : ActorName) → actor_at setup n ≡ Some x → (first.lab.part n).part ≡ part_of u x
  parts_there n x is = ap (λ (o : OwnPart). o.part) (first.is.parts n d n_in ∙ sym (second.is.parts n d n_in)) ∙ second.sees.sees.parts n x is
    where
      n_in : n < length v.actors
      n_in = let known = of_number setup n x is in let l = number_below setup x known.0 in omega (arith, l, known.1, size)

  channels_there : (x y : ℕ) → map (thing_of carried setup) (first.lab.channel x y) ≡ channel_of u (actor_at setup x) (actor_at setup y)
  channels_there x y = by_edge (has_channel setup x y) refl
    where
      by_edge : (t : Bool) → has_channel setup x y ≡ t
          → map (thing_of carried setup) (first.lab.channel x y) ≡ channel_of u (actor_at setup x) (actor_at setup y)
      by_edge true e = ap (λ items. map (thing_of carried setup) items) (first.is.channels x y (edges x y ∙ e) ∙ sym (second.is.channels x y (edges x y ∙ e)))
          ∙ second.sees.sees.channels x y
      by_edge false e = first.sees.sees.channels x y ∙ silent w first_itself (actor_at setup x) (actor_at setup y) e
          ∙ sym (silent u second_itself (actor_at setup x) (actor_at setup y) e)

  one_seen : u ≡ w
  one_seen = one setup (net_of carried setup first.lab) w u first.sees.sees
      (record { parts = parts_there; channels = channels_there; within = second.sees.sees.within })

-- ---- before the first mark

none_before : (mark : ℕ → ℕ) (es : List JournalEntry) → ((k : ℕ) → mark k ≡ 0) → upto mark es ≡ []
none_before mark [] none = refl
none_before mark (e ∷ es) none = rw (none e.actor) (none_before mark es none)

first_of : (setup : Setup) (events : List Event) (w v : World) → AreEntriesOf setup events [] → Run setup w events v → v ≡ w
first_of setup [] w v are run = run
first_of setup (event ∷ events) w v are run = absurd are

-- ---- a leg

module _ (setup : Setup) (a b : Stand) (begins : IsFirstStand setup a) (legs : Legs setup a b)
    (journal : List JournalEntry) (merge : Interleaves b.view.journal journal) (b_ran : Ran own carried setup b.view)
    (worlds : MarksStandForWorlds own carried) (dropped : NothingWasDropped) where
  pub world_first : leading.world setup a b begins legs journal merge b_ran worlds dropped 0 ≡ first_world setup
  world_first =
      let at : IsWorldAtMark setup journal (legs.mark 0) (leading.world setup a b begins legs journal merge b_ran worlds dropped 0) =
      (leading.world_at setup a b begins legs journal merge b_ran worlds dropped 0).1 in
      first_of setup at.events (first_world setup) (leading.world setup a b begins legs journal merge b_ran worlds dropped 0)
      (subst (AreEntriesOf setup at.events) (none_before (before (legs.mark 0)) journal (λ k. (legs.is_mark 0).lengths k
      ∙ ap (λ (es : List JournalEntry). length es) (ap (λ (v : View Node Mail). v.journal k) legs.first ∙ begins.new.journals k))) at.entries_of) at.run

  module _ (d : Node) (sound : IsSetup setup) (itself : NobodyWritesToItself)
      (one : OneWorldIsSeen) (law : ActsAreARun carried) (k : ℕ) (k_in : k < legs.made) where
    abbrev here : (w : World) × IsWorldAtMark setup journal (legs.mark k) w × IsSeenAs own carried setup (legs.at k) w
    here = leading.world_at setup a b begins legs journal merge b_ran worlds dropped k

    abbrev next : (w : World) × IsWorldAtMark setup journal (legs.mark (k + 1)) w × IsSeenAs own carried setup (legs.at (k + 1)) w
    next = leading.world_at setup a b begins legs journal merge b_ran worlds dropped (k + 1)

    here_reached : Reached setup here.0
    here_reached = record { events = here.1.events; run = here.1.run }

    -- what the journals have behind the next mark
    abbrev more : ℕ → List JournalEntry
    more j = ((legs.is_mark (k + 1)).later j).0

    -- what the journals got at the mark, and in the phase behind it
    abbrev at_mark : ℕ → List JournalEntry
    at_mark j = entries_of ((legs.pause k k_in).notes j)

    abbrev behind : ℕ → List JournalEntry
    behind j = entries_of ((legs.phase k k_in).notes j)

    phase_merge : (es : List JournalEntry) × Interleaves (λ j. entries_of ((legs.phase k k_in).notes j)) es
    phase_merge = merge_between b.view.journal (legs.from k).journal (λ j. entries_of ((legs.phase k k_in).notes j)) more journal merge
        (λ j. ((legs.is_mark (k + 1)).later j).1 ∙ ap (λ (es : List JournalEntry). es ++ more j) ((legs.phase k k_in).journals j))

    paused : RunFrom setup here.0 (legs.from k) at_mark
    paused = (legs.pause k k_in).runs here.0 (leading.size setup a b begins legs journal merge b_ran worlds dropped k (omega (arith, k_in))) here_reached here.2

    ahead : IsAhead at_mark behind
    ahead = level_ahead own (acts carried) (legs.at k) (legs.from k) (legs.at (k + 1))
        (legs.pause k k_in).levels [] (legs.pause k k_in).notes (legs.phase k k_in).notes (legs.pause k k_in).grew
        (phase_grows own (acts carried) took turned (legs.from k) (legs.at (k + 1)) (legs.phase k k_in)) (legs.pause k k_in).levelled

    whole : RunFrom setup here.0 (legs.at (k + 1)) (λ j. at_mark j ++ behind j)
    whole = run_then setup here.0 (legs.from k) (legs.at (k + 1)) at_mark behind ahead paused
        (phase_runs setup sound law d (legs.from k) (legs.at (k + 1)) (legs.phase k k_in) phase_merge.0 phase_merge.1 paused.after
        (leading.size_from setup a b begins legs journal merge b_ran worlds dropped k k_in)
        (reached_run setup paused.events here.0 paused.after here_reached paused.run) paused.seen)

    same_end : next.0 ≡ whole.after
    same_end = one_seen one setup (legs.at (k + 1)) d (leading.size setup a b begins legs journal merge b_ran worlds dropped (k + 1) (omega (arith, k_in)))
        (leading.edges setup a b begins legs journal merge b_ran worlds dropped (k + 1) (omega (arith, k_in))) whole.after next.0 whole.seen next.2
        (λ r. itself setup whole.after r sound (reached_run setup whole.events here.0 whole.after here_reached whole.run))
        (λ r. itself setup next.0 r sound (record { events = next.1.events; run = next.1.run }))

    leg_goes : RoundGoes setup here.0 (between journal (legs.mark k) (legs.mark (k + 1))) whole.events next.0
    leg_goes = record {
      entries = whole.entries;
      merged = record {
        each = λ j. whole.merged.each j
            ∙ sym (leading.slice_is setup a b begins legs journal merge b_ran worlds dropped k k_in j (at_mark j) ((legs.pause k k_in).grew.journals j));
        sorted = whole.merged.sorted;
      };
      entries_of = whole.entries_of;
      run = subst⁻¹ (λ (u : World). Run setup here.0 whole.events u) same_end whole.run;
    }

  -- ---- all legs

  module _ (d : Node) (sound : IsSetup setup) (itself : NobodyWritesToItself) (one : OneWorldIsSeen) (law : ActsAreARun carried) where
    events_where : (k : ℕ) → (k < legs.made) ⊎ (legs.made ≤ k) → List Event
    events_where k (inl k_in) = (whole d sound itself one law k k_in).events
    events_where k (inr past) = []

    -- the events of each round
    pub leg_events : ℕ → List Event
    leg_events k = events_where k (below_or_past k legs.made)

    abbrev at : ℕ → World
    at k = leading.world setup a b begins legs journal merge b_ran worlds dropped k

    goes_where : (k : ℕ) (there : (k < legs.made) ⊎ (legs.made ≤ k)) → k < legs.made
        → RoundGoes setup (at k) (between journal (legs.mark k) (legs.mark (k + 1))) (events_where k there) (at (k + 1))
    unfolding events_where
    goes_where k (inl k_in) there = leg_goes d sound itself one law k k_in
    goes_where k (inr past) there = absurd (omega (arith, past, there))

    pub each_goes : (k : ℕ) → k < legs.made → RoundGoes setup (at k) (between journal (legs.mark k) (legs.mark (k + 1))) (leg_events k) (at (k + 1))
    unfolding leg_events
    each_goes k k_in = goes_where k (below_or_past k legs.made) k_in
