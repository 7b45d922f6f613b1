-- The way of a laboratory's net, leg by leg: from each mark, past what groups begin there, through a round to the next mark.
use Rattle.std.proofs.Common.{◌≡◌, ◌≢◌, ◌≤◌, ◌<◌, ◌+◌, ◌∙◌, ℕ, zero, suc, true, List, [], ◌∷◌, ◌++◌, length, get_or}
use Rattle.std.proofs.Common.{map, refl, ap, sym, subst, inl, inr, arith, append_assoc, length-append}
use Rattle.std.specs.Prelude.{nat_lt, if◌then◌else◌, Some, slice_get}
use Rattle.std.proofs.Math.Path.{subst⁻¹}
use Rattle.std.proofs.lemmas.Bool.{lt-ltb, le-ltb}
use Rattle.std.proofs.lemmas.Bool.Decides.{eqb_tells}
use Rattle.std.proofs.lemmas.List.{append-nil, map-append, get_or_past}
use Rattle.std.proofs.lemmas.Option.{same_Some, slice_get_within}
use Rattle.ring_net.specs.declared.entry.JournalEntry.{JournalEntry}
use Rattle.ring_net.specs.Deeds.{Deed, Noted, Replay, entries_of, sent_by}
use Rattle.ring_net.specs.Phases.{View, NetPhase, Marked, Between, InOrder, OnlyClocks}
use Rattle.journal_merge.specs.Growth.{Grew}
use Rattle.journal_merge.proofs.Pieces.{grows_on}
use Rattle.ring_net.proofs.EdgeReads.{slice_get-append_left, slice_get-append_head}
use Rattle.ring_net.proofs.Replays.{replay-append}
use Rattle.graft_model.specs.Setups.{Setup}
use Rattle.graft_actors.specs.Acts.{acts}
use Rattle.bgp_session.specs.Running.{carried}
use Rattle.operator_core.specs.declared.operator as operator_type
use Rattle.world_runs.specs.Marks.{before, operator_number, IsMarkOf}
use Rattle.world_runs.specs.Labs.{actors_in}
use Rattle.world_runs.specs.Runs.{Ran, QuietAt}
use Rattle.world_nodes.specs.Nodes.{Mail, own, took, turned, paused}
use Rattle.world_nodes.specs.Ways.{Stand, IsFirstStand, Round, Pause, Way, Here, Rounds, Groups}
use Rattle.world_nodes.specs.declared.node.Node.{Node}
use Rattle.world_nodes.specs.declared.node.Node.TheVariants.{Router, Far, Operator}
use Rattle.real_rounds.proofs.Joins.{below_or_past, IsLevelled, still, at_level, level_ahead, level_then}
use Rattle.real_rounds.proofs.RunsBetween.{HasRuns, stays, runs_then, pause_levels, pause_notes, pause_grew}
use Rattle.journal_merge.proofs.Growths.{grew_none}

-- ---- at a mark

abbrev pub entry_in : Deed Mail → JournalEntry
entry_in d = d.entry

-- Between a mark and the round behind it the operator did something, or nothing: it takes nothing, and the other actors stay. It is a run of the world.
pub record Paused (setup : Setup) (u v : View Node Mail) : Type 0 where
  pub deeds : List (Deed Mail)
  pub size : length v.actors ≡ length u.actors
  pub others : (j : ℕ) (d : Node) → j ≢ operator_number setup → get_or v.actors j d ≡ get_or u.actors j d
  pub operator : (d : Node) (a : operator_type.Operator.Operator) → get_or u.actors (operator_number setup) d ≡ Operator a
      → (b : operator_type.Operator.Operator) × (get_or v.actors (operator_number setup) d ≡ Operator b)
  pub replay : (d : Node)
      → Replay (acts carried) (operator_number setup) (own (get_or u.actors (operator_number setup) d)) deeds (own (get_or v.actors (operator_number setup) d))
  pub journal : v.journal (operator_number setup) ≡ u.journal (operator_number setup) ++ map entry_in deeds
  pub journals : (j : ℕ) → j ≢ operator_number setup → v.journal j ≡ u.journal j
  pub edges : (a b : ℕ) → v.edge a b ≡ u.edge a b
  pub grows : (a b : ℕ) → u.edge a b ≡ true → length (u.channel a b) ≤ length (v.channel a b)
  pub rings : (a b : ℕ) → v.in_ring a b ≡ u.in_ring a b
  -- what it noted, at which levels, and that all clocks are level at its end, if it did anything
  pub levels : List ℕ
  pub notes : ℕ → List (Noted Mail)
  pub grew : Grew own (acts carried) u v levels notes
  pub levelled : IsLevelled u v notes
  pub runs : HasRuns setup u v (λ k. entries_of (notes k))

pub no_pause : (setup : Setup) (v : View Node Mail) → Paused setup v v
no_pause setup v = record {
  deeds = [];
  size = refl;
  others = λ j d ne. refl;
  operator = λ d a is. (a, is);
  replay = λ d. refl;
  journal = sym (append-nil (v.journal (operator_number setup)));
  journals = λ j ne. refl;
  edges = λ a b. refl;
  grows = λ a b e. omega arith;
  rings = λ a b. refl;
  levels = [];
  notes = λ k. [];
  grew = grew_none own (acts carried) v;
  levelled = still refl (λ k. refl);
  runs = stays setup v;
}

pause_then : (setup : Setup) (u v w : View Node Mail) → Paused setup u v → Paused setup v w → Paused setup u w
pause_then setup u v w x y = record {
  deeds = x.deeds ++ y.deeds;
  size = y.size ∙ x.size;
  others = λ j d ne. y.others j d ne ∙ x.others j d ne;
  operator = λ d a is. (let m = x.operator d a is in y.operator d m.0 m.1);
  replay = λ d. replay-append (acts carried) (operator_number setup) (own (get_or u.actors (operator_number setup) d))
      (own (get_or v.actors (operator_number setup) d)) (own (get_or w.actors (operator_number setup) d)) x.deeds y.deeds (x.replay d) (y.replay d);
  journal = y.journal ∙ ap (λ (es : List JournalEntry). es ++ map entry_in y.deeds) x.journal
      ∙ append_assoc (u.journal (operator_number setup)) (map entry_in x.deeds) (map entry_in y.deeds)
      ∙ ap (λ (es : List JournalEntry). u.journal (operator_number setup) ++ es) (sym (map-append entry_in x.deeds y.deeds));
  journals = λ j ne. y.journals j ne ∙ x.journals j ne;
  edges = λ a b. y.edges a b ∙ x.edges a b;
  grows = λ a b e. (let first = x.grows a b e in let last = y.grows a b (x.edges a b ∙ e) in omega (arith, first, last));
  rings = λ a b. y.rings a b ∙ x.rings a b;
  levels = x.levels ++ y.levels;
  notes = λ k. x.notes k ++ y.notes k;
  grew = grows_on own (acts carried) u v w x.levels y.levels x.notes y.notes x.grew y.grew;
  levelled = level_then u v w x.notes y.notes x.levelled y.levelled;
  runs = subst⁻¹ (λ (new : ℕ → List JournalEntry). HasRuns setup u w new) (λ i k. map-append (λ (n : Noted Mail). n.deed.entry) (x.notes k) (y.notes k) i)
      (runs_then setup u v w (λ k. entries_of (x.notes k)) (λ k. entries_of (y.notes k))
      (level_ahead own (acts carried) u v w x.levels y.levels x.notes y.notes x.grew y.grew x.levelled) x.size x.runs y.runs);
}

still_operator : (a : operator_type.Operator.Operator) (n : Node) (ds : List (Deed Mail)) → paused (Operator a) ds n
    → (b : operator_type.Operator.Operator) × (n ≡ Operator b)
still_operator a (Operator b) ds p = (b, refl)
still_operator a (Router b) ds p = absurd p
still_operator a (Far b) ds p = absurd p

one_pause : (setup : Setup) (b c : Stand) (pause : Pause (operator_number setup) b c true) → length b.view.actors ≡ actors_in setup
    → HasRuns setup b.view c.view (λ k. entries_of (pause_notes setup b c pause k)) → Paused setup b.view c.view
one_pause setup b c pause in_all runs = record {
  deeds = did.deeds;
  size = did.size ∙ ap (λ (xs : List Node). length xs) only.actors;
  others = λ j d ne. did.others j d ne ∙ ap (λ (xs : List Node). get_or xs j d) only.actors;
  operator = λ d a is. still_operator a (get_or c.view.actors (operator_number setup) d) did.deeds
      (subst (λ (n : Node). paused n did.deeds (get_or c.view.actors (operator_number setup) d))
      (ap (λ (xs : List Node). get_or xs (operator_number setup) d) only.actors ∙ is) (did.paused d));
  replay = λ d. subst (λ (xs : List Node). Replay (acts carried) (operator_number setup) (own (get_or xs (operator_number setup) d)) did.deeds
      (own (get_or c.view.actors (operator_number setup) d))) only.actors (did.replay d);
  journal = did.journal ∙ ap (λ (es : List JournalEntry). es ++ map entry_in did.deeds) (only.journals (operator_number setup));
  journals = λ j ne. did.journals j ne ∙ only.journals j;
  edges = λ x y. did.edges x y ∙ only.edges x y;
  grows = λ x y e. elim (eqb_tells x (operator_number setup)) [
    | inl s ↦ (let size : length (c.view.channel x y) ≡ length (b.view.channel x y) + length (sent_by y did.deeds) =
        ap (λ n. length (c.view.channel n y)) s.1
        ∙ ap (λ items. length items) (did.channel y (only.edges (operator_number setup) y ∙ ap (λ n. b.view.edge n y) (sym s.1) ∙ e))
        ∙ length-append (pause.level.channel (operator_number setup) y) (sent_by y did.deeds)
        ∙ ap (λ n. n + length (sent_by y did.deeds))
        (ap (λ items. length items) (only.channels (operator_number setup) y) ∙ ap (λ n. length (b.view.channel n y)) (sym s.1)) in omega (arith, size))
    | inr ne ↦ (let size : length (c.view.channel x y) ≡ length (b.view.channel x y) =
        ap (λ items. length items) (did.channels x y ne.1 ∙ only.channels x y) in omega (arith, size))
  ];
  rings = λ x y. did.rings x y ∙ only.rings x y;
  levels = pause_levels setup b c pause;
  notes = pause_notes setup b c pause;
  grew = pause_grew setup b c pause in_all;
  levelled = at_level did.to did.level;
  runs = runs;
}
  where
    did : Between own (acts carried) paused (operator_number setup) pause.level c.view true
    did = pause.between

    only : OnlyClocks b.view pause.level
    only = pause.levelled.only

-- what a pause adds to a journal
pub pause_more : (setup : Setup) (u v : View Node Mail) → Paused setup u v → (j : ℕ) → (more : List JournalEntry) × (v.journal j ≡ u.journal j ++ more)
pause_more setup u v pause j = elim (eqb_tells j (operator_number setup)) [
  | inl s ↦ (map entry_in pause.deeds, ap (λ n. v.journal n) s.1 ∙ pause.journal ∙ ap (λ n. u.journal n ++ map entry_in pause.deeds) (sym s.1))
  | inr ne ↦ ([], pause.journals j ne.1 ∙ sym (append-nil (u.journal j)))
]

-- ---- a list by number that goes on

abbrev choose : {A : Type 0} → ℕ → (ℕ → A) → A → ℕ → A
choose n old new k = if nat_lt k n then old k else new

chosen_old : {A : Type 0} (n : ℕ) (old : ℕ → A) (new : A) (k : ℕ) → k < n → choose n old new k ≡ old k
chosen_old n old new k l = rw (lt-ltb k n l) refl

chosen_new : {A : Type 0} (n : ℕ) (old : ℕ → A) (new : A) (k : ℕ) → n ≤ k → choose n old new k ≡ new
chosen_new n old new k h = rw (le-ltb k n h) refl

-- ---- the legs of a way

-- The marks of a way, by number, with the net as it stood at each; behind the last one the last stays.
pub record Legs (setup : Setup) (a b : Stand) : Type 0 where
  pub made : ℕ
  pub at : ℕ → View Node Mail
  pub mark : ℕ → List ℕ
  pub from : ℕ → View Node Mail
  pub is_mark : (k : ℕ) → IsMarkOf (at k) b.view (mark k)
  pub ran : (k : ℕ) → Ran own carried setup (at k)
  pub count : length b.marks ≡ made + 1
  pub marks : (k : ℕ) (m : List ℕ) → slice_get b.marks k ≡ Some m → m ≡ mark k
  pub first : at 0 ≡ a.view
  pub pause : (k : ℕ) → k < made → Paused setup (at k) (from k)
  pub phase : (k : ℕ) → k < made → NetPhase own (acts carried) took turned (from k) (at (k + 1))
  pub last : Paused setup (at made) b.view

mark_grows : (u v w : View Node Mail) (m : List ℕ) → IsMarkOf u v m → ((j : ℕ) → (more : List JournalEntry) × (w.journal j ≡ v.journal j ++ more))
    → IsMarkOf u w m
mark_grows u v w m is grown = record {
  lengths = is.lengths;
  later = λ j. (
    (is.later j).0 ++ (grown j).0,
    (grown j).1 ∙ ap (λ (es : List JournalEntry). es ++ (grown j).0) (is.later j).1 ∙ append_assoc (u.journal j) (is.later j).0 (grown j).0,
  );
}

-- the mark of a view that stands now
mark_now : (v : View Node Mail) (old new : List (List ℕ)) (marked : Marked v old new) → InOrder v → IsMarkOf v v marked.mark
mark_now v old new marked order = record {
  lengths = λ j. elim (below_or_past j (length v.actors)) [
    | inl l ↦ marked.lengths j l
    | inr past ↦ get_or_past marked.mark j 0 (omega (arith, past, marked.size)) ∙ sym (ap (λ (es : List JournalEntry). length es) (order.none j past))
  ];
  later = λ j. ([], sym (append-nil (v.journal j)));
}

module _ (setup : Setup) (a : Stand) (ran : (b : Stand) (rounds : List ℕ) → Way setup a rounds b → Ran own carried setup b.view)
    (ordered : (b : Stand) (rounds : List ℕ) → Way setup a rounds b → InOrder b.view)
    (pauses : (b c : Stand) → QuietAt own carried setup b.view → (pause : Pause (operator_number setup) b c true)
    → HasRuns setup b.view c.view (λ k. entries_of (pause_notes setup b c pause k))) (begins : IsFirstStand setup a) where
  no_legs : Legs setup a a
  no_legs = record {
    made = 0;
    at = λ k. a.view;
    mark = λ k. begins.marked.mark;
    from = λ k. a.view;
    is_mark = λ k. mark_now a.view [] a.marks begins.marked (ordered a (0 ∷ []) Here);
    ran = λ k. ran a (0 ∷ []) Here;
    count = ap (λ (ms : List (List ℕ)). length ms) begins.marked.marks;
    marks = λ k m is. only_one k m (subst (λ (ms : List (List ℕ)). slice_get ms k ≡ Some m) begins.marked.marks is);
    first = refl;
    pause = λ k l. absurd (omega (arith, l));
    phase = λ k l. absurd (omega (arith, l));
    last = no_pause setup a.view;
  }
    where
      only_one : (k : ℕ) (m : List ℕ) → slice_get (begins.marked.mark ∷ []) k ≡ Some m → m ≡ begins.marked.mark
      only_one zero m is = sym (same_Some begins.marked.mark m is)
      only_one (suc k) m is = absurd cc

  groups_legs : (b c : Stand) → Legs setup a b → Pause (operator_number setup) b c true → Paused setup b.view c.view → Legs setup a c
  groups_legs b c legs pause paused = record {
    made = legs.made;
    at = legs.at;
    mark = legs.mark;
    from = legs.from;
    is_mark = λ k. mark_grows (legs.at k) b.view c.view (legs.mark k) (legs.is_mark k) (pause_more setup b.view c.view paused);
    ran = legs.ran;
    count = ap (λ (ms : List (List ℕ)). length ms) pause.marks ∙ legs.count;
    marks = λ k m is. legs.marks k m (ap (λ (ms : List (List ℕ)). slice_get ms k) (sym pause.marks) ∙ is);
    first = legs.first;
    pause = legs.pause;
    phase = legs.phase;
    last = pause_then setup (legs.at legs.made) b.view c.view legs.last paused;
  }

  module _ (b c : Stand) (legs : Legs setup a b) (round : Round b c) (c_ran : Ran own carried setup c.view) (c_ordered : InOrder c.view) where
    n : ℕ
    n = legs.made

    abbrev next_at : ℕ → View Node Mail
    next_at = choose (legs.made + 1) legs.at c.view

    abbrev next_mark : ℕ → List ℕ
    next_mark = choose (legs.made + 1) legs.mark round.marked.mark

    abbrev next_from : ℕ → View Node Mail
    next_from = choose legs.made legs.from b.view

    next_is_mark : (k : ℕ) → IsMarkOf (next_at k) c.view (next_mark k)
    next_is_mark k = elim (below_or_past k (legs.made + 1)) [
      | inl l ↦ subst⁻¹ (λ (v : View Node Mail). IsMarkOf v c.view (next_mark k)) (chosen_old (legs.made + 1) legs.at c.view k l)
          (subst⁻¹ (λ (m : List ℕ). IsMarkOf (legs.at k) c.view m) (chosen_old (legs.made + 1) legs.mark round.marked.mark k l)
          (mark_grows (legs.at k) b.view c.view (legs.mark k) (legs.is_mark k) (λ j. (entries_of (round.phase.notes j), round.phase.journals j))))
      | inr past ↦ subst⁻¹ (λ (v : View Node Mail). IsMarkOf v c.view (next_mark k)) (chosen_new (legs.made + 1) legs.at c.view k past)
          (subst⁻¹ (λ (m : List ℕ). IsMarkOf c.view c.view m) (chosen_new (legs.made + 1) legs.mark round.marked.mark k past)
          (mark_now c.view b.marks c.marks round.marked c_ordered))
    ]

    next_ran : (k : ℕ) → Ran own carried setup (next_at k)
    next_ran k = elim (below_or_past k (legs.made + 1)) [
      | inl l ↦ subst⁻¹ (λ (v : View Node Mail). Ran own carried setup v) (chosen_old (legs.made + 1) legs.at c.view k l) (legs.ran k)
      | inr past ↦ subst⁻¹ (λ (v : View Node Mail). Ran own carried setup v) (chosen_new (legs.made + 1) legs.at c.view k past) c_ran
    ]

    next_marks : (k : ℕ) (m : List ℕ) → slice_get (b.marks ++ round.marked.mark ∷ []) k ≡ Some m → m ≡ next_mark k
    next_marks k m is = elim (below_or_past k (legs.made + 1)) [
      | inl l ↦ legs.marks k m (sym (slice_get-append_left b.marks (round.marked.mark ∷ []) k (omega (arith, l, legs.count))) ∙ is)
          ∙ sym (chosen_old (legs.made + 1) legs.mark round.marked.mark k l)
      | inr past ↦
          let k_in : k < length (b.marks ++ round.marked.mark ∷ []) = slice_get_within (b.marks ++ round.marked.mark ∷ []) k m is in
          let k_is : length b.marks ≡ k = omega (arith, k_in, past, legs.count, length-append b.marks (round.marked.mark ∷ [])) in
          same_Some m round.marked.mark (sym is ∙ slice_get-append_head b.marks round.marked.mark [] k k_is)
          ∙ sym (chosen_new (legs.made + 1) legs.mark round.marked.mark k past)
    ]

    next_pause : (k : ℕ) → k < legs.made + 1 → Paused setup (next_at k) (next_from k)
    next_pause k k_in = subst⁻¹ (λ (v : View Node Mail). Paused setup v (next_from k))
        (chosen_old (legs.made + 1) legs.at c.view k k_in) (elim (below_or_past k legs.made) [
          | inl l ↦ subst⁻¹ (λ (v : View Node Mail). Paused setup (legs.at k) v) (chosen_old legs.made legs.from b.view k l) (legs.pause k l)
          | inr past ↦ subst⁻¹ (λ (v : View Node Mail). Paused setup (legs.at k) v) (chosen_new legs.made legs.from b.view k past)
              (subst (λ (i : ℕ). Paused setup (legs.at i) b.view) (let e : legs.made ≡ k = omega (arith, k_in, past) in e) legs.last)
        ])

    next_phase : (k : ℕ) → k < legs.made + 1 → NetPhase own (acts carried) took turned (next_from k) (next_at (k + 1))
    next_phase k k_in = elim (below_or_past k legs.made) [
      | inl l ↦ subst⁻¹ (λ (v : View Node Mail). NetPhase own (acts carried) took turned v (next_at (k + 1))) (chosen_old legs.made legs.from b.view k l)
          (subst⁻¹ (λ (v : View Node Mail). NetPhase own (acts carried) took turned (legs.from k) v)
          (chosen_old (legs.made + 1) legs.at c.view (k + 1) (omega (arith, l))) (legs.phase k l))
      | inr past ↦ subst⁻¹ (λ (v : View Node Mail). NetPhase own (acts carried) took turned v (next_at (k + 1))) (chosen_new legs.made legs.from b.view k past)
          (subst⁻¹ (λ (v : View Node Mail). NetPhase own (acts carried) took turned b.view v)
          (chosen_new (legs.made + 1) legs.at c.view (k + 1) (omega (arith, past))) round.phase)
    ]

    round_legs : Legs setup a c
    round_legs = record {
      made = legs.made + 1;
      at = next_at;
      mark = next_mark;
      from = next_from;
      is_mark = next_is_mark;
      ran = next_ran;
      count = ap (λ (ms : List (List ℕ)). length ms) round.marked.marks ∙ length-append b.marks (round.marked.mark ∷ []) ∙ ap (λ (k : ℕ). k + 1) legs.count;
      marks = λ k m is. next_marks k m (ap (λ (ms : List (List ℕ)). slice_get ms k) (sym round.marked.marks) ∙ is);
      first = chosen_old (legs.made + 1) legs.at c.view 0 (omega arith) ∙ legs.first;
      pause = next_pause;
      phase = next_phase;
      last = subst⁻¹ (λ (v : View Node Mail). Paused setup v c.view)
          (chosen_new (legs.made + 1) legs.at c.view (legs.made + 1) (omega arith)) (no_pause setup c.view);
    }

  all_there : (b : Stand) (rounds : List ℕ) → Way setup a rounds b → length b.view.actors ≡ actors_in setup
  all_there b rounds Here = ap (λ (xs : List Node). length xs) begins.new.all ∙ begins.first.all
  all_there c rounds (Rounds past n {b = b} way round) = round.phase.size ∙ all_there b (past ++ n ∷ []) way
  all_there c rounds (Groups before {b = b} way quiet pause) = pause.between.size ∙ ap (λ (xs : List Node). length xs) pause.levelled.only.actors
      ∙ all_there b before way

  pub legs_of : (b : Stand) (rounds : List ℕ) → Way setup a rounds b → Legs setup a b
  legs_of b rounds Here = no_legs
  legs_of c rounds (Rounds past n {b = b} way round) =
      round_legs b c (legs_of b (past ++ n ∷ []) way) round (ran c (past ++ (n + 1) ∷ []) (Rounds past n way round))
      (ordered c (past ++ (n + 1) ∷ []) (Rounds past n way round))
  legs_of c rounds (Groups before {b = b} way quiet pause) =
      groups_legs b c (legs_of b before way) pause (one_pause setup b c pause (all_there b before way) (pauses b c quiet pause))
