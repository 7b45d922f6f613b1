-- What a net did goes on with its run.
use Rattle.std.proofs.Common.{◌≡◌, ◌≢◌, ℕ, ◌<◌, ◌≤◌, ◌+◌, List, [], ◌∷◌, ◌++◌, length, Option, Some, None, map}
use Rattle.std.proofs.Common.{slice_get, slice_index_or, refl, sym, ap, ◌∙◌, subst, inl, inr, arith}
use Rattle.std.specs.List.{AllByRecursion}
use Rattle.std.proofs.lemmas.Bool.Decides.{nat_tests}
use Rattle.std.proofs.lemmas.Option.{slice_get-get_or, slice_get_within}
use Rattle.ring_net.specs.declared.entry.JournalEntry.{JournalEntry}
use Rattle.ring_net.specs.declared.entry.Stamped.{Stamped}
use Rattle.ring_net.specs.Deeds.{Deed, Noted, deeds, noted, entries_of}
use Rattle.ring_net.specs.Phases.{View, IsNewNet, InOrder, AllAt}
use Rattle.ring_net.proofs.Replays.{deeds_noted, entries_deeds}
use Rattle.journal_merge.specs.Worlds as worlds
use Rattle.journal_merge.specs.Merges.{Interleaves, IsCut, entries_by}
use Rattle.journal_merge.specs.Growth.{noted_by, Grew, RunsTo}
use Rattle.journal_merge.specs.Laws.{at_mark}
use Rattle.journal_merge.proofs.Orders.{equal_or_not, by_here}
use Rattle.journal_merge.proofs.Runs.{own_here, own_else}
use Rattle.journal_merge.proofs.Pieces.{cuts_at_level, merge_runs}
use Rattle.graft_steps.specs.declared.item.Item.{Item}
use Rattle.session_value.specs.Sessions.{SessionValue}
use Rattle.graft_model.specs.Setups.{Setup, PeeringSetup, IsSetup, routers_in}
use Rattle.graft_model.specs.Parts.{World}
use Rattle.graft_model.specs.Quiet.{Quiet}
use Rattle.graft_model.specs.First.{first_far, first_world}
use Rattle.graft_laws.specs.Keeps.{Reached}
use Rattle.graft_laws.proofs.First.{some_peering}
use Rattle.graft_actors.specs.Actors.{FarIs, OperatorIs, ActorName, Router, FarSide, Operator, number_in, IsActor, actor_at}
use Rattle.graft_actors.specs.Seen.{Net, Sees, IsFirstNet, part_of}
use Rattle.graft_actors.specs.Laws.{AreEntriesOf}
use Rattle.graft_actors.proofs.Numbers.{of_number}
use Rattle.graft_actors.specs.Acts.{OwnPart, acts}
use Rattle.world_runs.specs.Labs.{actors_in, IsLab, AreFirstActors, net_of}
use Rattle.world_runs.specs.Runs.{IsStepOfLab, IsRunOfLab, IsSeenAs, RanAs, Ran, QuietAt}
use Rattle.world_runs.specs.Laws.{IsNoGo, AnActIsAStep}
use Rattle.world_runs.proofs.Goes.{nothing_goes}
use Rattle.world_runs.proofs.Runs.{run_join, entries_join, actor_below, same_lab, acts_run}

-- ---- events by their actors

module _ {I : Type 0} where
  -- what others have is what they had before this event, at most
  none_else : (k : ℕ) (n : Noted I) (ns : List (Noted I)) → noted_by k (n ∷ ns) ≡ [] → noted_by k ns ≡ []
  none_else k n ns none = elim (equal_or_not n.deed.entry.actor k) [
    | inl e ↦ (let some : n ∷ noted_by k ns ≡ [] = sym (own_here k n ns e) ∙ none in absurd cc)
    | inr ne ↦ sym (own_else k n ns ne) ∙ none
  ]

  -- where actors from a number on did nothing, all is done by those below it
  all_below : (most : ℕ) (ns : List (Noted I)) → ((k : ℕ) → most ≤ k → noted_by k ns ≡ []) → AllByRecursion (λ (d : Deed I). d.entry.actor < most) (deeds ns)
  all_below most [] none = tt
  all_below most (n ∷ ns) none = (below, all_below most ns (λ k past. none_else k n ns (none k past))) where
    not_past : most ≤ n.deed.entry.actor → ⊥
    not_past past = let some : n ∷ noted_by n.deed.entry.actor ns ≡ [] = sym (own_here n.deed.entry.actor n ns refl) ∙ none n.deed.entry.actor past in absurd cc

    below : n.deed.entry.actor < most
    below = omega (arith, not_past)

  -- what holds of each actor's events holds of all
  all_each : (P : Deed I → Type 0) (ns : List (Noted I)) → ((k : ℕ) → AllByRecursion P (deeds (noted_by k ns))) → AllByRecursion P (deeds ns)
  all_each P [] each = tt
  all_each P (n ∷ ns) each = (first.0, all_each P ns rest) where
    first : AllByRecursion P (deeds (n ∷ noted_by n.deed.entry.actor ns))
    first = subst (λ (ms : List (Noted I)). AllByRecursion P (deeds ms)) (own_here n.deed.entry.actor n ns refl) (each n.deed.entry.actor)

    rest : (k : ℕ) → AllByRecursion P (deeds (noted_by k ns))
    rest k = elim (equal_or_not n.deed.entry.actor k) [
      | inl e ↦ (subst (λ (ms : List (Noted I)). AllByRecursion P (deeds ms)) (own_here k n ns e) (each k)).1
      | inr ne ↦ subst (λ (ms : List (Noted I)). AllByRecursion P (deeds ms)) (own_else k n ns ne) (each k)
    ]

  -- where one actor alone did something, its events are all
  all_one : (k : ℕ) (ns : List (Noted I)) → ((j : ℕ) → j ≢ k → noted_by j ns ≡ []) → noted_by k ns ≡ ns
  all_one k [] none = refl
  all_one k (n ∷ ns) none = elim (equal_or_not n.deed.entry.actor k) [
    | inl e ↦ own_here k n ns e ∙ ap (λ (ms : List (Noted I)). n ∷ ms) (all_one k ns (λ j ne. none_else j n ns (none j ne)))
    | inr ne ↦ (let some : n ∷ noted_by n.deed.entry.actor ns ≡ [] = sym (own_here n.deed.entry.actor n ns refl) ∙ none n.deed.entry.actor ne in absurd cc)
  ]

-- ---- a new net

no_entries : (journals : ℕ → List JournalEntry) (merged : List JournalEntry) → ((k : ℕ) → journals k ≡ []) → Interleaves journals merged → merged ≡ []
no_entries journals [] none merge = refl
no_entries journals (e ∷ merged) none merge =
    let some : e ∷ entries_by e.actor merged ≡ [] = sym (by_here e.actor e merged refl) ∙ merge.each e.actor ∙ none e.actor in absurd cc

some_item : {A : Type 0} (xs : List A) (n : ℕ) → n < length xs → A
some_item [] n below = absurd (omega arith)
some_item (x ∷ xs) n below = x

module _ {A C : Type 0} (own : A → OwnPart) (session : C → SessionValue) (setup : Setup) where
  own_or : Option A → OwnPart
  own_or None = record { setup = setup; name = Operator; part = OperatorIs (first_world setup).operator }
  own_or (Some a) = own a

  -- the laboratory of these actors, with nothing on its way
  abbrev first_lab : List A → worlds.DeedWorld OwnPart (Item C)
  first_lab actors = record { part = λ n. own_or (slice_get actors n); channel = λ a b. [] }

  first_own : (actors : List A) → AreFirstActors own setup actors → (x : ActorName) (d : A) → IsActor setup x
      → own (slice_index_or actors (number_in setup x) d) ≡ record { setup = setup; name = x; part = part_of (first_world setup) x }
  first_own actors first (Router r) d there = first.routers r d there
  first_own actors first (FarSide p) d there = let h = some_peering setup p there in
      subst (λ (o : Option PeeringSetup). own (slice_index_or actors (routers_in setup + p) d)
      ≡ record { setup = setup; name = FarSide p; part = FarIs (first_far o) }) (sym h.1) (first.far_sides p d h.0 h.1)
  first_own actors first Operator d there = first.operator d

  actor_within : (x : ActorName) → IsActor setup x → number_in setup x < actors_in setup
  actor_within (Router r) there = omega (arith, there)
  actor_within (FarSide p) there = omega (arith, there)
  actor_within Operator there = omega arith

  module _ (actors : List A) (first : AreFirstActors own setup actors) where
    part_is : (n : ℕ) (d : A) → n < length actors → own_or (slice_get actors n) ≡ own (slice_index_or actors n d)
    unfolding own_or
    part_is n d below = ap own_or (slice_get-get_or actors n d below)

    named : (x : ActorName) → IsActor setup x
        → (first_lab actors).part (number_in setup x) ≡ record { setup = setup; name = x; part = part_of (first_world setup) x }
    named x there =
        let below : number_in setup x < length actors = omega (arith, actor_within x there, first.all) in
        let d : A = some_item actors (number_in setup x) below in
        part_is (number_in setup x) d below ∙ first_own actors first x d there

    first_part : (n : ℕ) (x : ActorName) → actor_at setup n ≡ Some x
        → (first_lab actors).part n ≡ record { setup = setup; name = x; part = part_of (first_world setup) x }
    first_part n x e = let h = of_number setup n x e in ap (first_lab actors).part h.1 ∙ named x h.0

    is_first : IsFirstNet setup (net_of session setup (first_lab actors))
    is_first = record {
      routers = λ r there. ap (λ (o : OwnPart). o.part) (named (Router r) there);
      far_sides = λ p peering e. ap (λ (o : OwnPart). o.part) (named (FarSide p) (slice_get_within setup.peerings p peering e))
          ∙ ap (λ (o : Option PeeringSetup). FarIs (first_far o)) e;
      operator = ap (λ (o : OwnPart). o.part) (named Operator tt);
      channels = λ a b. refl;
    }

    first_is_lab : ((net : Net) → IsFirstNet setup net → Sees setup net (first_world setup)) → IsLab session setup (first_lab actors) (first_world setup)
    first_is_lab begins = record {
      setups = λ n x e. ap (λ (o : OwnPart). o.setup) (first_part n x e);
      names = λ n x e. ap (λ (o : OwnPart). o.name) (first_part n x e);
      fits = λ a b. nothing_goes session setup (actor_at setup a) (actor_at setup b);
      sees = begins (net_of session setup (first_lab actors)) is_first;
    }

  pub new_ran : ((net : Net) → IsFirstNet setup net → Sees setup net (first_world setup))
      → (actors : List A) (edges : List (ℕ × ℕ)) (v : View A (Item C)) → AreFirstActors own setup actors → IsNewNet actors edges v
      → Ran own session setup v
  new_ran begins actors edges v first new merged merge = record {
    events = [];
    entries_of = subst (AreEntriesOf setup []) (sym (no_entries v.journal merged new.journals merge)) tt;
    world = first_world setup;
    run = refl;
    seen = record {
      lab = first_lab actors;
      is = record {
        parts = λ k d below. (let within : k < length actors = omega (arith, below, ap (λ (xs : List A). length xs) new.all) in
            part_is actors first k d within ∙ ap (λ (xs : List A). own (slice_index_or xs k d)) (sym new.all));
        channels = λ a b there. sym (ap (map (λ (x : Stamped (Item C)). x.item)) (new.channels a b));
      };
      sees = first_is_lab actors first begins;
    };
  }

-- ---- what comes after

module _ {A C : Type 0} (own : A → OwnPart) (session : C → SessionValue) (setup : Setup)
    (u v : View A (Item C)) (levels : List ℕ) (notes : ℕ → List (Noted (Item C))) where
  -- the deeds of a piece are a run of the world, from wherever the net is seen as a laboratory of a world that a run leads to
  abbrev IsRunAfter : Type 0
  IsRunAfter = (lab last : worlds.DeedWorld OwnPart (Item C)) (events : List (Noted (Item C))) (w : World) → IsSeenAs own session setup u w
      → IsLab session setup lab w → Reached setup w
      → ((k : ℕ) → noted_by k events ≡ notes k) → worlds.DeedRun (acts session) lab (deeds events) last
      → IsRunOfLab session setup w (map (λ (d : Deed (Item C)). d.entry) (deeds events)) last

  ran_after : (clock : ℕ) → InOrder u → AllAt u clock → Grew own (acts session) u v levels notes → IsRunAfter → Ran own session setup u
      → Ran own session setup v
  ran_after clock order level grew more ran merged merge =
      let cut : IsCut u.journal (λ k. entries_of (notes k)) merged = cuts_at_level own (acts session) u v levels notes clock merged order level grew merge in
      let r : RanAs own session setup cut.front u = ran cut.front cut.first in
      let s : RunsTo own (acts session) u r.seen.lab levels notes cut.back v =
      merge_runs own (acts session) u v levels notes cut.back r.seen.lab grew cut.second r.seen.is in
      let back : IsRunOfLab session setup r.world (map (λ (d : Deed (Item C)). d.entry) (deeds s.events)) s.last =
      more r.seen.lab s.last s.events r.world r.seen r.seen.sees (record { events = r.events; run = r.run }) s.each s.run in
      record {
        events = r.events ++ back.events;
        entries_of = subst (AreEntriesOf setup (r.events ++ back.events)) (sym cut.whole)
            (entries_join setup r.events back.events cut.front cut.back r.entries_of
            (subst (AreEntriesOf setup back.events) (entries_deeds s.events ∙ s.same) back.entries_of));
        world = back.after;
        run = run_join setup r.events back.events (first_world setup) r.world back.after r.run back.run;
        seen = record { lab = s.last; is = s.is; sees = back.lab };
      }

module _ {A C : Type 0} (own : A → OwnPart) (session : C → SessionValue) (act_is_a_step : AnActIsAStep session) (setup : Setup)
    (sound : IsSetup setup) (u v : View A (Item C)) (size : length u.actors ≡ actors_in setup) (levels : List ℕ) where
  pub runs_go_on : (notes : ℕ → List (Noted (Item C))) (clock : ℕ) → InOrder u → AllAt u clock → Grew own (acts session) u v levels notes
      → ((k : ℕ) → AllByRecursion IsNoGo (deeds (notes k)))
      → Ran own session setup u → Ran own session setup v
  runs_go_on notes clock order level grew no_go = ran_after own session setup u v levels notes clock order level grew more where
    more : IsRunAfter own session setup u v levels notes
    more lab last events w seen is_lab reached each run = acts_run session act_is_a_step setup sound lab last (deeds events) w reached is_lab
        (all_below (actors_in setup) events (λ k past. each k ∙ grew.none k (omega (arith, past, size))))
        (all_each IsNoGo events (λ k. subst (λ (ns : List (Noted (Item C))). AllByRecursion IsNoGo (deeds ns)) (sym (each k)) (no_go k))) run

  -- one deed at most, in a quiet world
  few_run : (lab last : worlds.DeedWorld OwnPart (Item C)) (did : List (Deed (Item C))) (w : World) → Reached setup w → IsLab session setup lab w
      → Quiet setup w → AllByRecursion (λ (d : Deed (Item C)). d.entry.actor < actors_in setup) did
      → length did ≤ 1 → worlds.DeedRun (acts session) lab did last → IsRunOfLab session setup w (map (λ (d : Deed (Item C)). d.entry) did) last
  few_run lab last [] w reached is_lab quiet below few same =
      record { events = []; entries_of = tt; after = w; run = refl; lab = same_lab session setup lab last w same is_lab }
  few_run lab last (deed ∷ []) w reached is_lab quiet below few (mid, step, same) =
      let x = actor_below setup deed.entry.actor below.0 in
      let s : IsStepOfLab session setup w deed.entry mid = act_is_a_step setup lab mid deed w x.0 sound reached is_lab x.1 step (λ go. quiet) in
      record {
        events = s.event ∷ [];
        entries_of = (s.entry_of, tt);
        after = s.after;
        run = (s.after, s.step, refl);
        lab = same_lab session setup mid last s.after same s.lab;
      }
  few_run lab last (deed ∷ other ∷ did) w reached is_lab quiet below few run = absurd (omega (arith, few))

  pub goes_on : (k : ℕ) (did : List (Deed (Item C))) (clock : ℕ) → InOrder u → AllAt u clock
      → Grew own (acts session) u v levels (at_mark own (acts session) k did) → length did ≤ 1
      → QuietAt own session setup u → Ran own session setup u → Ran own session setup v
  goes_on k did clock order level grew few quiet = ran_after own session setup u v levels (at_mark own (acts session) k did) clock order level grew more where
    here : at_mark own (acts session) k did k ≡ noted 0 did
    here = grind (arith, nat_tests)

    elsewhere : (j : ℕ) → j ≢ k → at_mark own (acts session) k did j ≡ []
    elsewhere j ne = grind (arith, nat_tests)

    more : IsRunAfter own session setup u v levels (at_mark own (acts session) k did)
    more lab last events w seen is_lab reached each run =
        let is : deeds events ≡ did =
        ap (λ (ns : List (Noted (Item C))). deeds ns) (sym (all_one k events (λ j ne. each j ∙ elsewhere j ne)) ∙ each k ∙ here) ∙ deeds_noted 0 did in
        few_run lab last (deeds events) w reached is_lab (quiet w seen reached)
        (all_below (actors_in setup) events (λ j past. each j ∙ grew.none j (omega (arith, past, size))))
        (omega (arith, few, ap (λ (ds : List (Deed (Item C))). length ds) is)) run
