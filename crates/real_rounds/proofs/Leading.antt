-- The legs of a way, seen as the world: sizes, edges, what no actor dropped, and what stands between two marks.
use Rattle.std.proofs.Common.{◌≡◌, ◌≢◌, ◌≤◌, ◌<◌, ◌+◌, ◌∙◌, ℕ, zero, suc, List, [], ◌∷◌, ◌++◌, length, get_or, map, ap, sym, subst, arith, append_assoc}
use Rattle.std.specs.List.{AllByRecursion}
use Rattle.std.proofs.Math.Path.{subst⁻¹}
use Rattle.std.proofs.lemmas.List.{append-nil}
use Rattle.ring_net.specs.declared.entry.JournalEntry.{JournalEntry}
use Rattle.ring_net.specs.Deeds.{Deed, deeds, entries_of}
use Rattle.ring_net.specs.Phases.{View}
use Rattle.journal_merge.specs.Merges.{Interleaves, entries_by}
use Rattle.graft_model.specs.Setups.{Setup}
use Rattle.graft_model.specs.Parts.{World}
use Rattle.graft_actors.specs.Actors as names
use Rattle.graft_actors.specs.Seen.{part_of}
use Rattle.graft_actors.proofs.Numbers.{there}
use Rattle.bgp_session.specs.Running.{carried}
use Rattle.world_runs.specs.Marks.{MarksStandForWorlds, IsWorldAtMark, operator_number}
use Rattle.world_runs.specs.Labs.{actors_in}
use Rattle.world_runs.specs.Runs.{IsSeenAs, Ran}
use Rattle.world_runs.specs.Laws.{NothingWasDropped}
use Rattle.world_nodes.specs.Edges.{has_channel}
use Rattle.world_nodes.specs.Nodes.{Mail, own}
use Rattle.world_nodes.specs.Ways.{Stand, IsFirstStand}
use Rattle.world_nodes.specs.declared.node.Node.{Node}
use Rattle.world_nodes.proofs.Seen.{part_is}
use Rattle.real_rounds.specs.Entries.{between}
use Rattle.real_rounds.proofs.Legs.{Legs, entry_in}
use Rattle.real_rounds.proofs.RouterDeeds.{IsKept}
use Rattle.real_rounds.proofs.Lists.{all_front, all_back, all_filter}
use Rattle.real_rounds.proofs.Slices.{between_is, entries_in_deeds}

-- ---- entries that are kept

abbrev pub EntryKept : JournalEntry → Type 0
EntryKept entry = entry.kind ≢ 0

pub deeds_kept : (ds : List (Deed Mail)) → AllByRecursion EntryKept (map entry_in ds) → AllByRecursion IsKept ds
deeds_kept [] all = tt
deeds_kept (d ∷ ds) all = (all.0, deeds_kept ds all.1)

pub number_below : (setup : Setup) (x : names.ActorName) → names.IsActor setup x → names.number_in setup x < actors_in setup
number_below setup (names.Router r) l = omega (arith, l)
number_below setup (names.FarSide p) l = omega (arith, l)
number_below setup names.Operator l = omega arith

pub next_is : (k : ℕ) → k + 1 ≡ suc k
next_is k = omega arith

module _ (setup : Setup) (a b : Stand) (begins : IsFirstStand setup a) (legs : Legs setup a b)
    (journal : List JournalEntry) (merge : Interleaves b.view.journal journal) (b_ran : Ran own carried setup b.view)
    (worlds : MarksStandForWorlds own carried) (dropped : NothingWasDropped) where
  -- ---- the world at each mark

  pub world_at : (k : ℕ) → (w : World) × IsWorldAtMark setup journal (legs.mark k) w × IsSeenAs own carried setup (legs.at k) w
  world_at k = worlds setup (legs.at k) b.view (legs.mark k) journal (legs.is_mark k) merge (legs.ran k)

  abbrev pub world : ℕ → World
  world k = (world_at k).0

  pub size : (k : ℕ) → k ≤ legs.made → length (legs.at k).actors ≡ actors_in setup
  size zero k_in = ap (λ (v : View Node Mail). length v.actors) legs.first ∙ ap (λ (xs : List Node). length xs) begins.new.all ∙ begins.first.all
  size (suc k) k_in = subst (λ (i : ℕ). length (legs.at i).actors ≡ actors_in setup) (next_is k)
      ((legs.phase k (omega (arith, k_in))).size ∙ (legs.pause k (omega (arith, k_in))).size ∙ size k (omega (arith, k_in)))

  pub size_from : (k : ℕ) (k_in : k < legs.made) → length (legs.from k).actors ≡ actors_in setup
  size_from k k_in = (legs.pause k k_in).size ∙ size k (omega (arith, k_in))

  pub edges : (k : ℕ) → k ≤ legs.made → (x y : ℕ) → (legs.at k).edge x y ≡ has_channel setup x y
  edges zero k_in x y = ap (λ (v : View Node Mail). v.edge x y) legs.first ∙ begins.new.edge x y ∙ begins.are_edges.each x y
  edges (suc k) k_in x y = subst (λ (i : ℕ). (legs.at i).edge x y ≡ has_channel setup x y) (next_is k)
      ((legs.phase k (omega (arith, k_in))).edges x y ∙ (legs.pause k (omega (arith, k_in))).edges x y ∙ edges k (omega (arith, k_in)) x y)

  -- each actor at a mark is its part of the world there
  pub own_at : (k : ℕ) → k ≤ legs.made → (x : names.ActorName) → names.IsActor setup x → (d : Node)
      → own (get_or (legs.at k).actors (names.number_in setup x) d) ≡ record { setup = setup; name = x; part = part_of (world k) x }
  own_at k k_in x known d = part_is own carried setup (legs.at k) (world k) (world_at k).2 (size k k_in) (names.number_in setup x) x d (there setup x known)
      (let l : names.number_in setup x < actors_in setup = number_below setup x known in omega (arith, l, size k k_in))

  -- ---- a leg

  all_kept : AllByRecursion EntryKept journal
  all_kept = let ran = b_ran journal merge in dropped setup ran.events journal ran.entries_of

  -- an actor's entries, in three parts: before the mark, between it and the next one, and behind
  parts : (k : ℕ) (k_in : k < legs.made) (j : ℕ) (front : List JournalEntry) → (legs.from k).journal j ≡ (legs.at k).journal j ++ front
      → (more : List JournalEntry) × (entries_by j journal ≡ ((legs.at k).journal j ++ (front ++ entries_of ((legs.phase k k_in).notes j))) ++ more)
  parts k k_in j front is =
      let later = (legs.is_mark (k + 1)).later j in (
        later.0,
        merge.each j ∙ later.1 ∙ ap (λ (es : List JournalEntry). es ++ later.0)
            ((legs.phase k k_in).journals j ∙ ap (λ (es : List JournalEntry). es ++ entries_of ((legs.phase k k_in).notes j)) is
            ∙ append_assoc ((legs.at k).journal j) front (entries_of ((legs.phase k k_in).notes j))),
      )

  pub slice_is : (k : ℕ) (k_in : k < legs.made) (j : ℕ) (front : List JournalEntry) → (legs.from k).journal j ≡ (legs.at k).journal j ++ front
      → between journal (legs.mark k) (legs.mark (k + 1)) j ≡ front ++ entries_of ((legs.phase k k_in).notes j)
  slice_is k k_in j front is =
      let whole = parts k k_in j front is in
      between_is journal (legs.mark k) (legs.mark (k + 1)) j ((legs.at k).journal j)
      (front ++ entries_of ((legs.phase k k_in).notes j)) whole.0 whole.1 ((legs.is_mark k).lengths j)
      ((legs.is_mark (k + 1)).lengths j ∙ ap (λ (es : List JournalEntry). length es)
      ((legs.phase k k_in).journals j ∙ ap (λ (es : List JournalEntry). es ++ entries_of ((legs.phase k k_in).notes j)) is
      ∙ append_assoc ((legs.at k).journal j) front (entries_of ((legs.phase k k_in).notes j))))

  pub leg_kept : (k : ℕ) (k_in : k < legs.made) (j : ℕ) (front : List JournalEntry) → (legs.from k).journal j ≡ (legs.at k).journal j ++ front
      → AllByRecursion EntryKept front × AllByRecursion IsKept (deeds ((legs.phase k k_in).notes j))
  leg_kept k k_in j front is =
      let whole = parts k k_in j front is in
      let all : AllByRecursion EntryKept (entries_by j journal) = all_filter EntryKept _ journal all_kept in
      let mine : AllByRecursion EntryKept (front ++ entries_of ((legs.phase k k_in).notes j)) =
      all_back EntryKept ((legs.at k).journal j) (front ++ entries_of ((legs.phase k k_in).notes j))
      (all_front EntryKept ((legs.at k).journal j ++ (front ++ entries_of ((legs.phase k k_in).notes j))) whole.0
      (subst (λ (es : List JournalEntry). AllByRecursion EntryKept es) whole.1 all)) in (
        all_front EntryKept front (entries_of ((legs.phase k k_in).notes j)) mine,
        deeds_kept (deeds ((legs.phase k k_in).notes j))
            (subst⁻¹ (λ (es : List JournalEntry). AllByRecursion EntryKept es) (entries_in_deeds ((legs.phase k k_in).notes j))
            (all_back EntryKept front (entries_of ((legs.phase k k_in).notes j)) mine)),
      )

  -- who isn't the operator has noted nothing at the mark
  pub no_front : (k : ℕ) (k_in : k < legs.made) (j : ℕ) → j ≢ operator_number setup → (legs.from k).journal j ≡ (legs.at k).journal j ++ []
  no_front k k_in j other = (legs.pause k k_in).journals j other ∙ sym (append-nil ((legs.at k).journal j))
