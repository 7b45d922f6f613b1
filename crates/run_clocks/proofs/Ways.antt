-- The clocks of a laboratory's net along its way.
use Rattle.std.proofs.Common.{◌≡◌, ◌≤◌, ◌<◌, ◌+◌, ◌==◌, ℕ, true, false, List, [], ◌∷◌, ◌++◌, length, get_or, refl, ap, sym, subst, ◌∙◌, arith, inl, inr}
use Rattle.std.specs.Prelude.{Option, None}
use Rattle.std.specs.List.{AllByRecursion}
use Rattle.std.proofs.lemmas.Bool.Decides.{nat_tests}
use Rattle.ring_net.specs.declared.entry.JournalEntry.{JournalEntry}
use Rattle.ring_net.specs.Deeds.{Deed, Noted, Replay, TakesNone, deeds, entries_of}
use Rattle.ring_net.specs.Phases.{View}
use Rattle.journal_merge.specs.Merges.{AreSorted}
use Rattle.journal_merge.specs.Growth.{noted_by}
use Rattle.journal_merge.proofs.Pieces.{phase_grows}
use Rattle.graft_model.specs.Codes.{operator_code}
use Rattle.graft_model.specs.declared.event.OperatorEvent.TheVariants.{Go}
use Rattle.graft_model.specs.Setups.{Setup, routers_in, peerings_in}
use Rattle.graft_actors.specs.Actors.{OperatorIs, Operator}
use Rattle.graft_actors.specs.Laws.{IsGo}
use Rattle.graft_actors.proofs.Numbers.{at_operator}
use Rattle.graft_actors.specs.Acts.{OwnPart, ActsAs, acts}
use Rattle.bgp_session.specs.Running.{carried}
use Rattle.world_runs.specs.Marks.{is_go}
use Rattle.world_runs.proofs.Seen.{nothing_open, act_goes}
use Rattle.world_runs.specs.Labs.{actors_in}
use Rattle.world_runs.specs.Laws.{IsNoGo}
use Rattle.world_runs.specs.Runs.{RanAs, Ran, QuietAt}
use Rattle.world_nodes.specs.Nodes.{Mail, own, took, turned, paused}
use Rattle.world_nodes.specs.Ways.{Stand, IsFirstStand, Round, Pause, Way, Here, Rounds, Groups}
use Rattle.world_nodes.specs.declared.node.Node.{Node}
use Rattle.world_nodes.proofs.Seen.{part_is}
use Rattle.world_nodes.proofs.WayRuns.{round_no_go, pause_few}
use Rattle.run_clocks.proofs.Cuts.{entries_by_of}
use Rattle.run_clocks.proofs.Pacing.{below_or_past, Paced, paced_first, paced_round, paced_then}

some_of : {X : Type 0} (xs : List X) (k : ℕ) → k < length xs → X
some_of [] k h = absurd (omega arith)
some_of (x ∷ xs) k h = x

-- ---- whether a group begins

go_test : (entry : JournalEntry) → IsGo entry → is_go entry ≡ true
go_test entry go = tells entry.kind (operator_code Go).kind go
  where
    tells : (m n : ℕ) → m ≡ n → (m == n) ≡ true
    tells m n e = grind (arith, nat_tests)

no_go_test : (entry : JournalEntry) → (IsGo entry → ⊥) → is_go entry ≡ false
no_go_test entry none = tells entry.kind (operator_code Go).kind none
  where
    tells : (m n : ℕ) → (m ≡ n → ⊥) → (m == n) ≡ false
    tells m n ne = grind (arith, nat_tests)

no_go_tests : (notes : List (Noted Mail)) → AllByRecursion IsNoGo (deeds notes) → AllByRecursion (λ (n : Noted Mail). is_go n.deed.entry ≡ false) notes
no_go_tests [] none = tt
no_go_tests (n ∷ notes) none = (no_go_test n.deed.entry none.0, no_go_tests notes none.1)

-- ---- the way

module _ (setup : Setup) (a : Stand) (begins : IsFirstStand setup a) where
  abbrev pub IsPaced : View Node Mail → Type 0
  IsPaced v = Paced own (acts carried) is_go a.view v

  pub size : length a.view.actors ≡ actors_in setup
  size = ap (λ (xs : List Node). length xs) begins.new.all ∙ begins.first.all

  -- all that was noted since the net was new is its journals
  pub journals_are : (v : View Node Mail) (p : IsPaced v) (k : ℕ) → v.journal k ≡ entries_of (p.notes k)
  journals_are v p k = p.grew.journals k ∙ ap (λ (es : List JournalEntry). es ++ entries_of (p.notes k)) (begins.new.journals k)

  -- ---- a round

  round_paced : (b c : Stand) → Round b c → IsPaced b.view → IsPaced c.view
  round_paced b c round p = paced_round own (acts carried) is_go a.view b.view c.view round.phase.notes
      (phase_grows own (acts carried) took turned b.view c.view round.phase) none p
    where
      none : (k : ℕ) → AllByRecursion (λ (n : Noted Mail). is_go n.deed.entry ≡ false) (round.phase.notes k)
      none k = elim (below_or_past k (length b.view.actors)) [
        | inl k_in ↦ no_go_tests (round.phase.notes k) (round_no_go k _ _ _ _ (round.phase.notes k)
            (round.phase.actors k (some_of b.view.actors k k_in) k_in))
        | inr past ↦ subst (λ (ns : List (Noted Mail)). AllByRecursion (λ (n : Noted Mail). is_go n.deed.entry ≡ false) ns) (sym (round.phase.none k past)) tt
      ]

  -- ---- a mark at which a group begins

  module _ (b c : Stand) (p : IsPaced b.view) (ran : Ran own carried setup b.view) (quiet : QuietAt own carried setup b.view)
      (pause : Pause (routers_in setup + peerings_in setup) b c true) where
    size_there : length b.view.actors ≡ actors_in setup
    size_there = p.grew.size ∙ size

    operator_in_b : routers_in setup + peerings_in setup < length b.view.actors
    operator_in_b = omega (arith, size_there)

    -- what the operator does in a quiet world begins a group
    begins_group : (d : Deed Mail) → pause.between.deeds ≡ d ∷ [] → (events : List (Noted Mail)) → AreSorted (entries_of events)
        → ((k : ℕ) → noted_by k events ≡ p.notes k) → is_go d.entry ≡ true
    begins_group d one events sorted each = go_test d.entry
        (act_goes carried setup r.world.operator d.entry d.sent act.0 (nothing_open setup r.world
        (quiet r.world r.seen (record { events = r.events; run = r.run }))).0 did)
      where
        x : Node
        x = some_of b.view.actors (routers_in setup + peerings_in setup) operator_in_b

        r : RanAs own carried setup (entries_of events) b.view
        r = ran (entries_of events) (record {
          each = λ k. entries_by_of k events ∙ ap (λ ns. entries_of ns) (each k)
              ∙ sym (journals_are b.view p k);
          sorted = sorted;
        })

        operator_is : own (get_or pause.level.actors (routers_in setup + peerings_in setup) x)
            ≡ record { setup = setup; name = Operator; part = OperatorIs r.world.operator }
        operator_is = ap (λ (xs : List Node). own (get_or xs (routers_in setup + peerings_in setup) x)) pause.levelled.only.actors
            ∙ part_is own carried setup b.view r.world r.seen size_there (routers_in setup + peerings_in setup) Operator x (at_operator setup) operator_in_b

        act : Replay (acts carried) (routers_in setup + peerings_in setup) (own (get_or pause.level.actors (routers_in setup + peerings_in setup) x))
            (d ∷ []) (own (get_or c.view.actors (routers_in setup + peerings_in setup) x))
        act = subst (λ (ds : List (Deed Mail)). Replay (acts carried) (routers_in setup + peerings_in setup)
            (own (get_or pause.level.actors (routers_in setup + peerings_in setup) x)) ds
            (own (get_or c.view.actors (routers_in setup + peerings_in setup) x))) one
            (pause.between.replay x)

        untaken : d.taken ≡ None
        untaken = (subst (λ (ds : List (Deed Mail)). AllByRecursion TakesNone ds) one pause.between.none).0

        did : ActsAs carried (record { setup = setup; name = Operator; part = OperatorIs r.world.operator }) d.entry None d.sent act.0
        did = subst (λ (o : OwnPart). ActsAs carried o d.entry None d.sent act.0) operator_is
            (subst (λ (t : Option (ℕ × Mail)). ActsAs carried (own (get_or pause.level.actors
            (routers_in setup + peerings_in setup) x)) d.entry t d.sent act.0) untaken act.1)

    pause_paced : IsPaced c.view
    pause_paced = by_deeds pause.between.deeds refl
      where
        few : length pause.between.deeds ≤ 1
        few =
            let x : Node = some_of b.view.actors (routers_in setup + peerings_in setup) operator_in_b in
            pause_few (get_or pause.level.actors (routers_in setup + peerings_in setup) x)
            (get_or c.view.actors (routers_in setup + peerings_in setup) x) pause.between.deeds (pause.between.paused x)

        by_deeds : (ds : List (Deed Mail)) → pause.between.deeds ≡ ds → IsPaced c.view
        by_deeds [] e = absurd (let none : true ≡ false = pause.between.answer.1 e in cc)
        by_deeds (d ∷ []) e = paced_then own (acts carried) is_go a.view paused b.view pause.level c.view
            (routers_in setup + peerings_in setup) p pause.levelled pause.between (omega (arith, size)) d e (begins_group d e)
        by_deeds (d ∷ other ∷ ds) e = absurd (omega (arith, few, ap (λ (xs : List (Deed Mail)). length xs) e))

  -- ---- all of it

  pub way_paced : ((b : Stand) (rounds : List ℕ) → Way setup a rounds b → Ran own carried setup b.view) → (b : Stand) (rounds : List ℕ)
      → Way setup a rounds b → IsPaced b.view
  way_paced runs b rounds Here = paced_first own (acts carried) is_go a.view begins.new.clocks
  way_paced runs c rounds (Rounds past n {b = b} way round) = round_paced b c round (way_paced runs b (past ++ n ∷ []) way)
  way_paced runs c rounds (Groups before {b = b} way quiet pause) = pause_paced b c (way_paced runs b before way) (runs b before way) quiet pause
