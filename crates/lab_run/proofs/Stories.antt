-- The marks of a run name how it goes on and ends.
use Rattle.std.proofs.Common.{◌≡◌, ℕ, suc, ◌+◌, ◌≤◌, ◌<◌, true, false, List, [], ◌∷◌, ◌++◌, length, get_or, map}
use Rattle.std.proofs.Common.{filter, refl, sym, ap, ◌∙◌, subst, inl, inr, arith, append_assoc, append-nil}
use Rattle.std.specs.List.{AllByRecursion}
use Rattle.std.proofs.lemmas.List.{length-append}
use Rattle.ring_net.specs.declared.entry.JournalEntry.{JournalEntry}
use Rattle.ring_net.specs.Deeds.{Deed}
use Rattle.journal_merge.specs.Merges.{Interleaves}
use Rattle.journal_merge.proofs.Orders.{equal_or_not}
use Rattle.graft_model.specs.Setups.{Setup, IsSetup, groups_in}
use Rattle.graft_model.specs.Parts.{World}
use Rattle.graft_model.specs.Quiet.{Quiet}
use Rattle.graft_laws.specs.Keeps.{Reached}
use Rattle.bgp_session.specs.Running.{carried}
use Rattle.world_runs.specs.Runs.{IsSeenAs, RanAs, Ran}
use Rattle.world_runs.specs.Marks.{operator_number, is_go}
use Rattle.world_runs.proofs.Groups.{groups_counted}
use Rattle.world_runs.proofs.Seen.{nothing_open}
use Rattle.world_nodes.specs.Nodes.{Mail, own}
use Rattle.world_nodes.specs.Ways.{Stand, IsFirstStand, Pause, Way, Here, Rounds, Groups}
use Rattle.lab_report.specs.declared.lab.RunEnd.{RunEnd}
use Rattle.lab_report.specs.declared.lab.RunEnd.TheVariants.{Settled}
use Rattle.node_configs.specs.declared.budget.Budget.{Budget}
use Rattle.lab_run.specs.declared.end.Verdict.{Verdict}
use Rattle.lab_run.specs.declared.end.Verdict.TheVariants.{IsQuiet, Ends}
use Rattle.lab_run.specs.Ends.{HasMarks, MarksName}
use Rattle.lab_run.specs.Stories.{MakesRounds, NoRound, OneMore, GroupGoes, PassesPause, GroupsGo, NoGroup, NextGroup, RunGoes}
use Rattle.lab_run.proofs.Stands.{GoesOnTo, stays, then_on, round_on, pause_on, pause_journal, pause_others, IsWhole, whole_first, whole_round}
use Rattle.lab_run.proofs.Stands.{whole_pause, mark_of, groups_at, groups_stay, groups_more, same_back, same_seen, pause_same}
use Rattle.lab_run.proofs.Behind.{WorldsStand, Behind, world_behind, behind_on, behind_round, behind_end}
use Rattle.lab_run.proofs.Behind.{behind_settled, behind_group, none_begins, quiet_there, groups_behind}

abbrev pub WayRan : Type 0
WayRan = (setup : Setup) (a b : Stand) (rounds : List ℕ) → IsSetup setup → IsFirstStand setup a → Way setup a rounds b → Ran own carried setup b.view

-- ---- rounds of a group

module _ (setup : Setup) (budget : Budget) (step : ℕ) (b : Stand) where
  goes_whole : (n : ℕ) (c : Stand) → IsWhole setup b → MakesRounds setup budget step b n c → IsWhole setup c
  goes_whole n c is NoRound = is
  goes_whole n c is (OneMore m {b = d} goes names) = whole_round setup d c (goes_whole m d is goes) names.round

  goes_on : (n : ℕ) (c : Stand) → MakesRounds setup budget step b n c → GoesOnTo b.view c.view
  goes_on n c NoRound = stays b.view b.view (λ k. refl)
  goes_on n c (OneMore m {b = d} goes names) = then_on b.view d.view c.view (goes_on m d goes) (round_on d c names.round)

  goes_count : (n : ℕ) (c : Stand) → IsWhole setup b → MakesRounds setup budget step b n c → groups_at setup c ≡ groups_at setup b
  goes_count n c is NoRound = refl
  goes_count n c is (OneMore m {b = d} goes names) = groups_stay setup d c (goes_whole m d is goes) names.round ∙ goes_count m d is goes

  goes_way : (a : Stand) (past : List ℕ) (n : ℕ) (c : Stand) → Way setup a (past ++ 0 ∷ []) b → MakesRounds setup budget step b n c
      → Way setup a (past ++ n ∷ []) c
  goes_way a past n c way NoRound = way
  goes_way a past n c way (OneMore m {b = d} goes names) = Rounds past m (goes_way a past m d way goes) names.round

module _ (way_ran : WayRan) (setup : Setup) (sound : IsSetup setup) (a : Stand) (begins : IsFirstStand setup a)
    (z : Stand) (journal : List JournalEntry) (merge : Interleaves z.view.journal journal) where
  goes_back : (budget : Budget) (step : ℕ) (budgets : List Budget) (made : List ℕ) (end : RunEnd) (b : Stand) (past : List ℕ)
      → Way setup a (past ++ 0 ∷ []) b → IsWhole setup b → (n : ℕ) (c : Stand) → MakesRounds setup budget step b n c
      → Behind setup z journal merge step n (budget ∷ budgets) c made end → Behind setup z journal merge step 0 (budget ∷ budgets) b made end
  goes_back budget step budgets made end b past way is n c NoRound behind = behind
  goes_back budget step budgets made end b past way is n c (OneMore m {b = d} goes names) behind =
      goes_back budget step budgets made end b past way is m d goes
      (behind_round setup z journal merge step m budget d c (whole_round setup d c (goes_whole setup budget step b m d is goes) names.round)
      (way_ran setup a c (past ++ n ∷ []) sound begins (Rounds past m (goes_way setup budget step b a past m d way goes) names.round)) budgets
      made end names behind)

  -- ---- a group

  -- where a group begins, behind so many others
  record Opens (past : List Budget) (b : Stand) : Type 0 where
    rounds : List ℕ
    way : Way setup a (rounds ++ 0 ∷ []) b
    is : IsWhole setup b
    count : groups_at setup b ≡ length past

  module _ (past : List Budget) (b : Stand) (opens : Opens past b) (budget : Budget) (step rounds : ℕ)
      (verdict : Verdict) (c : Stand) (group : GroupGoes setup budget step b rounds verdict c) where
    group_whole : IsWhole setup c
    group_whole = whole_round setup group.before c (goes_whole setup budget step b group.past group.before opens.is group.goes) group.last.round

    group_way : Way setup a (opens.rounds ++ (group.past + 1) ∷ []) c
    group_way = Rounds opens.rounds group.past (goes_way setup budget step b a opens.rounds group.past group.before opens.way group.goes) group.last.round

    group_ran : Ran own carried setup c.view
    group_ran = way_ran setup a c (opens.rounds ++ (group.past + 1) ∷ []) sound begins group_way

    group_on : GoesOnTo b.view c.view
    group_on = then_on b.view group.before.view c.view
        (goes_on setup budget step b group.past group.before group.goes) (round_on group.before c group.last.round)

    group_count : groups_at setup c ≡ length past
    group_count = groups_stay setup group.before c (goes_whole setup budget step b group.past group.before opens.is group.goes) group.last.round
        ∙ goes_count setup budget step b group.past group.before opens.is group.goes ∙ opens.count

    group_back : (budgets : List Budget) (made : List ℕ) (end : RunEnd)
        → Behind setup z journal merge step group.past (budget ∷ budgets) group.before ((group.past + 1) ∷ made) end
        → Behind setup z journal merge step 0 (budget ∷ budgets) b (rounds ∷ made) end
    group_back budgets made end behind = subst (λ (n : ℕ). Behind setup z journal merge step 0 (budget ∷ budgets) b (n ∷ made) end) (sym group.rounds_is)
        (goes_back budget step budgets ((group.past + 1) ∷ made) end b opens.rounds opens.way opens.is group.past group.before group.goes behind)

  -- ---- groups

  opens_first : Opens [] a
  opens_first = record {
    rounds = [];
    way = Here;
    is = whole_first setup a begins;
    count = ap (λ (xs : List JournalEntry). length (filter is_go xs)) (begins.new.journals (operator_number setup));
  }

  opens_next : (past : List Budget) (b : Stand) (opens : Opens past b) (budget : Budget) (rounds : ℕ) (c d : Stand)
      → GroupGoes setup budget (length past + 1) b rounds IsQuiet c → PassesPause setup c d true → GoesOnTo d.view z.view
      → Opens (past ++ budget ∷ []) d
  opens_next past b opens budget rounds c d group passes on =
      let step : ℕ = length past + 1 in
      let is : IsWhole setup c = group_whole past b opens budget step rounds IsQuiet c group in
      let ran : Ran own carried setup c.view = group_ran past b opens budget step rounds IsQuiet c group in
      let w = quiet_there setup z journal merge step group.past budget group.before c is ran group.last
      (then_on c.view d.view z.view (pause_on (operator_number setup) c d true passes.pause) on) in
      record {
        rounds = opens.rounds ++ (group.past + 1) ∷ [];
        way = Groups (opens.rounds ++ (group.past + 1) ∷ []) (group_way past b opens budget step rounds IsQuiet c group)
            (λ v seen reached. (group.last.names v (seen, reached)).1.quiet) passes.pause;
        is = whole_pause setup c d true is passes.pause;
        count = groups_more setup c d w.0 is w.1 w.2 passes.pause
            ∙ ap (λ (n : ℕ). n + 1) (group_count past b opens budget step rounds IsQuiet c group) ∙ sym (length-append past (budget ∷ []));
      }

  groups_open : (past : List Budget) (made : List ℕ) (b : Stand) → GroupsGo setup a past made b → GoesOnTo b.view z.view → Opens past b
  groups_open past made b NoGroup on = opens_first
  groups_open past made d (NextGroup budgets budget earlier rounds {b = b} {c = c} groups group passes) on =
      let on_c : GoesOnTo c.view z.view = then_on c.view d.view z.view (pause_on (operator_number setup) c d true passes.pause) on in
      let on_b : GoesOnTo b.view z.view = then_on b.view c.view z.view (then_on b.view group.before.view c.view
      (goes_on setup budget (length budgets + 1) b group.past group.before group.goes) (round_on group.before c group.last.round)) on_c in
      opens_next budgets b (groups_open budgets earlier b groups on_b) budget rounds c d group passes on

  groups_back : (past : List Budget) (made : List ℕ) (b : Stand) → GroupsGo setup a past made b
      → (next : Budget) (left : List Budget) (more : List ℕ) (end : RunEnd)
      → Behind setup z journal merge (length past + 1) 0 (next ∷ left) b more end → Behind setup z journal merge 1 0 (past ++ next ∷ left) a (made ++ more) end
  groups_back past made b NoGroup next left more end behind = behind
  groups_back past made d (NextGroup budgets budget earlier rounds {b = b} {c = c} groups group passes) next left more end behind =
      let step : ℕ = length budgets + 1 in
      let on_d : GoesOnTo d.view z.view = behind_on setup z journal merge (length past + 1) 0 (next ∷ left) d more end behind in
      let on_c : GoesOnTo c.view z.view = then_on c.view d.view z.view (pause_on (operator_number setup) c d true passes.pause) on_d in
      let on_b : GoesOnTo b.view z.view = then_on b.view c.view z.view (then_on b.view group.before.view c.view
      (goes_on setup budget step b group.past group.before group.goes) (round_on group.before c group.last.round)) on_c in
      let opens : Opens budgets b = groups_open budgets earlier b groups on_b in
      let same_step : length past + 1 ≡ step + 1 = ap (λ (n : ℕ). n + 1) (length-append budgets (budget ∷ [])) in
      let at_next : Behind setup z journal merge (step + 1) 0 (next ∷ left) d more end =
      subst (λ (n : ℕ). Behind setup z journal merge n 0 (next ∷ left) d more end) same_step behind in
      let at_mark : Behind setup z journal merge step group.past (budget ∷ next ∷ left) group.before ((group.past + 1) ∷ more) end =
      behind_group setup z journal merge step group.past budget group.before c (group_whole budgets b opens budget step rounds IsQuiet c group)
      (group_ran budgets b opens budget step rounds IsQuiet c group) d next left more end group.last passes.pause at_next in
      let all : Behind setup z journal merge 1 0 (budgets ++ budget ∷ next ∷ left) a (earlier ++ rounds ∷ more) end =
      groups_back budgets earlier b groups budget (next ∷ left) (rounds ∷ more) end
      (group_back budgets b opens budget step rounds IsQuiet c group (next ∷ left) more end at_mark) in
      subst (λ (xs : List Budget). Behind setup z journal merge 1 0 xs a ((earlier ++ rounds ∷ []) ++ more) end)
      (sym (append_assoc budgets (budget ∷ []) (next ∷ left)))
      (subst (λ (ns : List ℕ). Behind setup z journal merge 1 0 (budgets ++ budget ∷ next ∷ left) a ns end) (sym (append_assoc earlier (rounds ∷ []) more)) all)

  -- ---- the end

  -- where the operator did nothing at a mark, the journals are as they were
  nothing_noted : (c : Stand) (pause : Pause (operator_number setup) c z false) (k : ℕ) → z.view.journal k ≡ c.view.journal k
  nothing_noted c pause k = elim (equal_or_not k (operator_number setup)) [
    | inl e ↦ subst (λ (n : ℕ). z.view.journal n ≡ c.view.journal n) (sym e)
        (pause_journal (operator_number setup) c z false pause ∙ ap (λ (ds : List (Deed Mail)). c.view.journal (operator_number setup)
        ++ map (λ (d : Deed Mail). d.entry) ds) (pause.between.answer.0 refl) ∙ append-nil (c.view.journal (operator_number setup)))
    | inr ne ↦ pause_others (operator_number setup) c z false pause k ne
  ]

  no_more : (n : ℕ) (later : List Budget) → n + 1 + length later ≤ n + 1 → later ≡ []
  no_more n [] le = refl
  no_more n (x ∷ later) le = absurd (omega (arith, le))

  module _ (past : List Budget) (rounds : List ℕ) (begun : Stand)
      (groups : GroupsGo setup a past rounds begun) (budget : Budget) (last : ℕ) (marked : Stand) where
    -- where a run ends by a limit
    ends_behind : (later : List Budget) (end : RunEnd) → GroupGoes setup budget (length past + 1) begun last (Ends end) marked → z ≡ marked
        → Behind setup z journal merge 1 0 (past ++ budget ∷ later) a (rounds ++ last ∷ []) end
    ends_behind later end group same =
        let step : ℕ = length past + 1 in
        let on : GoesOnTo marked.view z.view = stays marked.view z.view (λ k. ap (λ (c : Stand). c.view.journal k) same) in
        let on_begun : GoesOnTo begun.view z.view = then_on begun.view marked.view z.view (then_on begun.view group.before.view marked.view
        (goes_on setup budget step begun group.past group.before group.goes) (round_on group.before marked group.last.round)) on in
        let opens : Opens past begun = groups_open past rounds begun groups on_begun in
        groups_back past rounds begun groups budget later (last ∷ []) end
        (group_back past begun opens budget step last (Ends end) marked group later [] end
        (behind_end setup z journal merge step group.past budget group.before marked (group_whole past begun opens budget step last (Ends end) marked group)
        (group_ran past begun opens budget step last (Ends end) marked group) later end group.last same))

    module _ (group : GroupGoes setup budget (length past + 1) begun last IsQuiet marked) (passes : PassesPause setup marked z false) where
      settled_on : GoesOnTo marked.view z.view
      settled_on = pause_on (operator_number setup) marked z false passes.pause

      settled_opens : Opens past begun
      settled_opens = groups_open past rounds begun groups
          (then_on begun.view marked.view z.view (then_on begun.view group.before.view marked.view
          (goes_on setup budget (length past + 1) begun group.past group.before group.goes) (round_on group.before marked group.last.round)) settled_on)

      settled_whole : IsWhole setup marked
      settled_whole = group_whole past begun settled_opens budget (length past + 1) last IsQuiet marked group

      settled_ran : Ran own carried setup marked.view
      settled_ran = group_ran past begun settled_opens budget (length past + 1) last IsQuiet marked group

      -- where the operator may begin no other group, that was the last one
      was_last : groups_in setup ≤ length past + 1
      was_last =
          let h = world_behind setup z journal merge group.before marked group.last.round settled_whole settled_on settled_ran in
          let reached : Reached setup h.0 = record { events = h.1.events; run = h.1.run } in
          let none = nothing_open setup h.0 (group.last.names h.0 (h.2, reached)).1.quiet in
          let count : h.0.operator.group ≡ length past =
          groups_behind setup z journal merge group.before marked group.last.round settled_whole settled_on settled_ran
          ∙ group_count past begun settled_opens budget (length past + 1) last IsQuiet marked group in
          elim ((passes.held h.0 (h.2, reached)).0 refl) [
            | inl unissued ↦ absurd (none.0 unissued)
            | inr (inl open_one) ↦ absurd (none.1 open_one.0 open_one.1)
            | inr (inr few) ↦ omega (arith, few, count)
          ]

      -- where the run is settled
      settled_behind : Behind setup z journal merge 1 0 (past ++ budget ∷ []) a (rounds ++ last ∷ []) Settled
      settled_behind = groups_back past rounds begun groups budget [] (last ∷ []) Settled
          (group_back past begun settled_opens budget (length past + 1) last IsQuiet marked group [] [] Settled
          (behind_settled setup z journal merge (length past + 1) group.past budget group.before marked
          settled_whole settled_ran group.last passes.pause.marks (nothing_noted marked passes.pause)))

  pub run_behind : (budgets : List Budget) (made : List ℕ) (end : RunEnd) → length budgets ≡ groups_in setup → RunGoes setup a budgets made end z
      → Behind setup z journal merge 1 0 budgets a made end
  run_behind budgets made end as_many run = elim run.ends [
    | inl limit ↦ arranged end run.first.0 run.first.1 (ends_behind run.past run.rounds run.begun run.groups run.budget run.last run.marked run.first.0 end
        (subst (λ (v : Verdict). GroupGoes setup run.budget (length run.past + 1) run.begun run.last v run.marked) limit.0 run.group) limit.1)
    | inr settled ↦
        (let group = subst (λ (v : Verdict). GroupGoes setup run.budget (length run.past + 1) run.begun run.last v run.marked) settled.0 run.group in
        let few = was_last run.past run.rounds run.begun run.groups run.budget run.last run.marked group settled.2 in
        let none : run.first.0 ≡ [] = no_more (length run.past) run.first.0
        (omega (arith, few, as_many, ap (λ (xs : List Budget). length xs) run.first.1, length-append run.past (run.budget ∷ run.first.0))) in
        subst (λ (e : RunEnd). Behind setup z journal merge 1 0 budgets a made e) (sym settled.1)
        (arranged Settled [] (run.first.1 ∙ ap (λ (xs : List Budget). run.past ++ run.budget ∷ xs) none)
        (settled_behind run.past run.rounds run.begun run.groups run.budget run.last run.marked group settled.2)))
  ]
    where
      arranged : (e : RunEnd) (later : List Budget) → budgets ≡ run.past ++ run.budget ∷ later
          → Behind setup z journal merge 1 0 (run.past ++ run.budget ∷ later) a (run.rounds ++ run.last ∷ []) e
          → Behind setup z journal merge 1 0 budgets a made e
      arranged e later all behind = subst (λ (xs : List Budget). Behind setup z journal merge 1 0 xs a made e) (sym all)
          (subst (λ (ns : List ℕ). Behind setup z journal merge 1 0 (run.past ++ run.budget ∷ later) a ns e) (sym run.made_is) behind)

  -- the marks of the whole run
  pub marks_of_run : (budgets : List Budget) (made : List ℕ) (end : RunEnd) → length budgets ≡ groups_in setup → RunGoes setup a budgets made end z
      → (world : ℕ → World) → WorldsStand setup journal z.marks world → HasMarks setup journal world budgets z.marks made end
  marks_of_run budgets made end as_many run world stand =
      let behind : Behind setup z journal merge 1 0 budgets a made end = run_behind budgets made end as_many run in
      let whole : IsWhole setup a = whole_first setup a begins in
      record {
        first = begins.marked.mark;
        marks = behind.round.marked.mark ∷ behind.later;
        is = behind.whole ∙ ap (λ (xs : List (List ℕ)). xs ++ behind.round.marked.mark ∷ behind.later) begins.marked.marks;
        empty = all_zero begins.marked.mark (λ k there. begins.marked.lengths k (omega (arith, there, begins.marked.size))
            ∙ ap (λ (xs : List JournalEntry). length xs) (begins.new.journals k));
        begins_none = none_begins setup z journal merge 1 0 budgets a begins.marked.mark made end whole
            (mark_of setup a z [] begins.marked whole (behind_on setup z journal merge 1 0 budgets a made end behind)) behind;
        last = behind.last;
        is_last = behind.is_last;
        whole = λ k. behind.ends k ∙ sym (ap (λ (xs : List JournalEntry). length xs) (merge.each k));
        name = subst (λ (k : ℕ). MarksName setup journal world k 1 0 budgets (behind.round.marked.mark ∷ behind.later) made end)
            (ap (λ (xs : List (List ℕ)). length xs) begins.marked.marks) (behind.name world stand);
      }
    where
      all_zero : (xs : List ℕ) → ((k : ℕ) → k < length xs → get_or xs k 0 ≡ 0) → AllByRecursion (λ n. n ≡ 0) xs
      all_zero [] zeros = tt
      all_zero (x ∷ xs) zeros = (zeros 0 (omega arith), all_zero xs (λ k there. zeros (suc k) (omega (arith, there))))

  -- ---- the last world

  module _ (budgets : List Budget) (made : List ℕ) (end : RunEnd) (run : RunGoes setup a budgets made end z) where
    last_opens : GoesOnTo run.marked.view z.view → Opens run.past run.begun
    last_opens on = groups_open run.past run.rounds run.begun run.groups
        (then_on run.begun.view run.marked.view z.view (then_on run.begun.view run.group.before.view run.marked.view (goes_on setup run.budget
        (length run.past + 1) run.begun run.group.past run.group.before run.group.goes) (round_on run.group.before run.marked run.group.last.round)) on)

    limit_on : z ≡ run.marked → GoesOnTo run.marked.view z.view
    limit_on same = stays run.marked.view z.view (λ k. ap (λ (c : Stand). c.view.journal k) same)

    marked_whole : GoesOnTo run.marked.view z.view → IsWhole setup run.marked
    marked_whole on = group_whole run.past run.begun (last_opens on) run.budget (length run.past + 1) run.last run.verdict run.marked run.group

    marked_ran : GoesOnTo run.marked.view z.view → Ran own carried setup run.marked.view
    marked_ran on = group_ran run.past run.begun (last_opens on) run.budget (length run.past + 1) run.last run.verdict run.marked run.group

    -- the net is whole at its end
    pub run_whole : IsWhole setup z
    run_whole = elim run.ends [
      | inl limit ↦ subst (λ (c : Stand). IsWhole setup c) (sym limit.1) (marked_whole (limit_on limit.1))
      | inr settled ↦ whole_pause setup run.marked z false (marked_whole (pause_on (operator_number setup) run.marked z false settled.2.pause)) settled.2.pause
    ]

    after_pause : (c : Stand) (pause : Pause (operator_number setup) c z false) → Ran own carried setup c.view → Ran own carried setup z.view
    after_pause c pause ran merged inter =
        let r : RanAs own carried setup merged c.view = ran merged (record { each = λ k. inter.each k ∙ nothing_noted c pause k; sorted = inter.sorted }) in
        record {
          events = r.events;
          entries_of = r.entries_of;
          world = r.world;
          run = r.run;
          seen = same_seen setup c z r.world (pause_same (operator_number setup) c z pause) r.seen;
        }

    -- the journal of the whole run is that of a run of the world
    pub run_ran : Ran own carried setup z.view
    run_ran = elim run.ends [
      | inl limit ↦ subst (λ (c : Stand). Ran own carried setup c.view) (sym limit.1) (marked_ran (limit_on limit.1))
      | inr settled ↦ after_pause run.marked settled.2.pause (marked_ran (pause_on (operator_number setup) run.marked z false settled.2.pause))
    ]

    -- behind the last mark nothing was noted
    pub same_marks : z.marks ≡ run.marked.marks
    same_marks = elim run.ends [ inl limit ↦ ap (λ (c : Stand). c.marks) limit.1 | inr settled ↦ settled.2.pause.marks ]

    same_journals : (k : ℕ) → z.view.journal k ≡ run.marked.view.journal k
    same_journals k = elim run.ends [ inl limit ↦ ap (λ (c : Stand). c.view.journal k) limit.1 | inr settled ↦ nothing_noted run.marked settled.2.pause k ]

    pub same_merge : (merged : List JournalEntry) → Interleaves z.view.journal merged → Interleaves run.marked.view.journal merged
    same_merge merged inter = record { each = λ k. inter.each k ∙ same_journals k; sorted = inter.sorted }

    marked_on : GoesOnTo run.marked.view z.view
    marked_on = elim run.ends [ inl limit ↦ limit_on limit.1 | inr settled ↦ pause_on (operator_number setup) run.marked z false settled.2.pause ]

    -- as many groups have begun as came to their end before the last one
    groups_at_end : groups_at setup z ≡ length run.past
    groups_at_end =
        ap (λ (xs : List JournalEntry). length (filter is_go xs)) (same_journals (operator_number setup))
        ∙ group_count run.past run.begun (last_opens marked_on) run.budget (length run.past + 1) run.last run.verdict run.marked run.group

    -- the way to the last mark
    pub made_there : List ℕ
    made_there = (last_opens marked_on).rounds ++ (run.group.past + 1) ∷ []

    pub way_there : Way setup a made_there run.marked
    unfolding made_there
    way_there = group_way run.past run.begun (last_opens marked_on) run.budget (length run.past + 1) run.last run.verdict run.marked run.group

  -- ---- a settled run

  pub settled_quiet : (budgets : List Budget) (made : List ℕ) → RunGoes setup a budgets made Settled z → (w : World)
      → IsSeenAs own carried setup z.view w → Reached setup w → Quiet setup w
  settled_quiet budgets made run w seen reached = elim run.ends [
    | inl limit ↦ absurd ((subst (λ (v : Verdict). GroupGoes setup run.budget (length run.past + 1) run.begun run.last v run.marked)
        limit.0 run.group).last.names w (subst (λ (c : Stand). IsSeenAs own carried setup c.view w) limit.1 seen, reached))
    | inr settled ↦
        ((subst (λ (v : Verdict). GroupGoes setup run.budget (length run.past + 1) run.begun run.last v run.marked) settled.0 run.group).last.names w
        (same_seen setup z run.marked w (same_back run.marked z (pause_same (operator_number setup) run.marked z settled.2.pause)) seen, reached)).1.quiet
  ]

  -- the group at its end is the last one
  pub settled_last : (budgets : List Budget) (made : List ℕ) → length budgets ≡ groups_in setup → RunGoes setup a budgets made Settled z
      → (ran : RanAs own carried setup journal z.view)
      → ran.world.operator.group + 1 ≡ groups_in setup
  settled_last budgets made as_many run ran = elim run.ends [
    | inl limit ↦ absurd
        ((subst (λ (v : Verdict). GroupGoes setup run.budget (length run.past + 1) run.begun run.last v run.marked) limit.0 run.group).last.names ran.world
        (subst (λ (c : Stand). IsSeenAs own carried setup c.view ran.world) limit.1 ran.seen, record { events = ran.events; run = ran.run }))
    | inr settled ↦
        (let group = subst (λ (v : Verdict). GroupGoes setup run.budget (length run.past + 1) run.begun run.last v run.marked) settled.0 run.group in
        let few = was_last run.past run.rounds run.begun run.groups run.budget run.last run.marked group settled.2 in
        let all : length budgets ≡ length run.past + (1 + length run.first.0) =
        ap (λ (xs : List Budget). length xs) run.first.1 ∙ length-append run.past (run.budget ∷ run.first.0) ∙ omega arith in
        let here : ran.world.operator.group ≡ length run.past =
        groups_counted setup ran.events journal ran.world ran.entries_of ran.run
        ∙ ap (λ (xs : List JournalEntry). length (filter is_go xs)) (merge.each (operator_number setup))
        ∙ groups_at_end budgets made Settled run in
        omega (arith, few, as_many, all, here))
  ]
