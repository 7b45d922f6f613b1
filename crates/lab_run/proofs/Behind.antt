-- What the marks name that stand behind a moment of a run.
use Rattle.std.proofs.Common.{◌≡◌, ℕ, ◌+◌, true, List, [], ◌∷◌, ◌++◌, length, map, filter, Some, slice_get}
use Rattle.std.proofs.Common.{refl, sym, ap, ◌∙◌, subst, inl, inr, append_assoc, append-nil}
use Rattle.std.proofs.lemmas.List.{length-append}
use Rattle.std.specs.List.{last_or}
use Rattle.ring_net.specs.declared.entry.JournalEntry.{JournalEntry}
use Rattle.ring_net.specs.Deeds.{Deed, entries_of}
use Rattle.ring_net.proofs.EdgeReads.{slice_get-append_head}
use Rattle.ring_net.proofs.Replays.{all-append}
use Rattle.journal_merge.specs.Merges.{Interleaves, upto}
use Rattle.graft_model.specs.Setups.{Setup}
use Rattle.graft_model.specs.Parts.{World}
use Rattle.settled_check.specs.Left.{HasUnissued}
use Rattle.graft_actors.specs.Laws.{IsGo}
use Rattle.bgp_session.specs.Running.{carried}
use Rattle.world_runs.specs.Runs.{IsSeenAs, Ran}
use Rattle.world_runs.specs.Marks.{before, IsWorldAtMark, IsMarkOf, operator_number, is_go, BeginsNone, BeginsWithGo}
use Rattle.world_runs.proofs.Marks.{up_to_mark, world_at_mark}
use Rattle.world_runs.proofs.Groups.{groups_counted}
use Rattle.world_runs.proofs.Seen.{nothing_open}
use Rattle.world_nodes.specs.Nodes.{Mail, own}
use Rattle.world_nodes.specs.Ways.{Stand, Round, Pause}
use Rattle.lab_report.specs.declared.lab.RunEnd.{RunEnd}
use Rattle.lab_report.specs.declared.lab.RunEnd.TheVariants.{Settled}
use Rattle.node_configs.specs.declared.budget.Budget.{Budget}
use Rattle.lab_run.specs.declared.end.Verdict.{Verdict}
use Rattle.lab_run.specs.declared.end.Verdict.TheVariants.{GoesOn, IsQuiet, Ends}
use Rattle.lab_run.specs.Ends.{MarkNames, NextBegins, NoneBegins, MarksName}
use Rattle.lab_run.specs.Stories.{RoundNames}
use Rattle.lab_run.proofs.Stands.{GoesOnTo, then_on, round_on, pause_on, pause_journal, IsWhole, whole_pause, mark_of}
use Rattle.lab_run.proofs.Stands.{round_without_go, without_go, between_marks, pause_goes, groups_at}

-- whatever world stands at a mark is the one of the mark's number
abbrev pub WorldsStand : Setup → List JournalEntry → (marks : List (List ℕ)) (world : ℕ → World) → Type 0
WorldsStand setup journal marks world = (k : ℕ) (mark : List ℕ) (w : World) → slice_get marks k ≡ Some mark → IsWorldAtMark setup journal mark w → w ≡ world k

-- ---- what marks name, by the budgets that are left

module _ (setup : Setup) (journal : List JournalEntry) (world : ℕ → World) (k step n : ℕ) (budget : Budget) where
  name_goes : (budgets : List Budget) (mark : List ℕ) (marks : List (List ℕ)) (made : List ℕ) (end : RunEnd)
      → MarkNames setup (world k) budget step (n + 1) mark GoesOn
      → NoneBegins setup journal mark marks → MarksName setup journal world (k + 1) step (n + 1) (budget ∷ budgets) marks made end
      → MarksName setup journal world k step n (budget ∷ budgets) (mark ∷ marks) made end
  name_goes [] mark marks made end names none further = inl (names, none, further)
  name_goes (next ∷ budgets) mark marks made end names none further = inl (names, none, further)

  name_ends : (budgets : List Budget) (mark : List ℕ) (end : RunEnd) → MarkNames setup (world k) budget step (n + 1) mark (Ends end)
      → MarksName setup journal world k step n (budget ∷ budgets) (mark ∷ []) ((n + 1) ∷ []) end
  name_ends [] mark end names = inr (inr (names, refl, refl))
  name_ends (next ∷ budgets) mark end names = inr (inr (names, refl, refl))

module _ (setup : Setup) (z : Stand) (journal : List JournalEntry) (merge : Interleaves z.view.journal journal) where
  -- Behind a stand of a settle that has made n rounds: the next round, and what all marks from its own on name.
  pub record Behind (step n : ℕ) (budgets : List Budget) (c : Stand) (made : List ℕ) (end : RunEnd) : Type 0 where
    pub stand : Stand
    pub round : Round c stand
    pub on : GoesOnTo stand.view z.view
    pub is_whole : IsWhole setup stand
    pub later : List (List ℕ)
    pub whole : z.marks ≡ c.marks ++ round.marked.mark ∷ later
    pub name : (world : ℕ → World) → WorldsStand setup journal z.marks world
        → MarksName setup journal world (length c.marks) step n budgets (round.marked.mark ∷ later) made end
    pub last : List ℕ
    pub is_last : last_or (Some round.marked.mark) later ≡ Some last
    pub ends : (k : ℕ) → before last k ≡ length (z.view.journal k)

  pub behind_on : (step n : ℕ) (budgets : List Budget) (c : Stand) (made : List ℕ) (end : RunEnd) → Behind step n budgets c made end → GoesOnTo c.view z.view
  behind_on step n budgets c made end behind = then_on c.view behind.stand.view z.view (round_on c behind.stand behind.round) behind.on

  -- the world behind the mark of a round
  pub world_behind : (b c : Stand) (round : Round b c) → IsWhole setup c → GoesOnTo c.view z.view → Ran own carried setup c.view
      → (w : World) × IsWorldAtMark setup journal round.marked.mark w × IsSeenAs own carried setup c.view w
  world_behind b c round is on ran =
      world_at_mark own carried setup c.view z.view round.marked.mark journal (mark_of setup c z b.marks round.marked is on) merge ran

  -- the mark of a round names this of the world of its number, which is that of the marks before it
  decide_at_mark : (budget : Budget) (step rounds : ℕ) (b c : Stand) (verdict : Verdict)
      (names : RoundNames setup budget step rounds b c verdict) → IsWhole setup c
      → GoesOnTo c.view z.view → Ran own carried setup c.view → (later : List (List ℕ)) → z.marks ≡ b.marks ++ names.round.marked.mark ∷ later
      → (world : ℕ → World) → WorldsStand setup journal z.marks world
      → MarkNames setup (world (length b.marks)) budget step rounds names.round.marked.mark verdict
  decide_at_mark budget step rounds b c verdict names is on ran later whole world stand =
      let mark : List ℕ = names.round.marked.mark in
      let h = world_behind b c names.round is on ran in
      let at : slice_get z.marks (length b.marks) ≡ Some mark =
      ap (λ (xs : List (List ℕ)). slice_get xs (length b.marks)) whole ∙ slice_get-append_head b.marks mark later (length b.marks) refl in
      subst (λ (w : World). MarkNames setup w budget step rounds mark verdict) (stand (length b.marks) mark h.0 at h.1)
      (names.names h.0 (h.2, record { events = h.1.events; run = h.1.run }))

  -- a round makes one mark
  one_more : (b c : Stand) → Round b c → length c.marks ≡ length b.marks + 1
  one_more b c round = ap (λ (xs : List (List ℕ)). length xs) round.marked.marks ∙ length-append b.marks (round.marked.mark ∷ [])

  -- no group begins between a mark and the next, where a round lies between them
  pub none_begins : (step n : ℕ) (budgets : List Budget) (c : Stand) (mark : List ℕ) (made : List ℕ) (end : RunEnd) → IsWhole setup c
      → IsMarkOf c.view z.view mark
      → (behind : Behind step n budgets c made end) → NoneBegins setup journal mark (behind.round.marked.mark ∷ behind.later)
  none_begins step n budgets c mark made end is at_c behind =
      (between_marks setup z c behind.stand journal mark behind.round.marked.mark (entries_of (behind.round.phase.notes (operator_number setup))) merge at_c
      (mark_of setup behind.stand z c.marks behind.round.marked behind.is_whole behind.on) (behind.round.phase.journals (operator_number setup))).1.1
      (without_go (behind.round.phase.notes (operator_number setup)) (round_without_go setup c behind.stand is behind.round))

  begins_first : (xs ys : List JournalEntry) → BeginsWithGo xs → BeginsNone ys → BeginsWithGo (xs ++ ys)
  begins_first [] ys go none = absurd go
  begins_first (x ∷ xs) ys go none = (go.0, all-append (λ (e : JournalEntry). ¬ IsGo e) xs ys go.1 none)

  -- one begins where the operator began it at the mark, and no other in the round behind it
  next_begins : (step n : ℕ) (budgets : List Budget) (b c : Stand) (mark : List ℕ) (made : List ℕ) (end : RunEnd) → IsWhole setup b
      → IsMarkOf b.view z.view mark → (pause : Pause (operator_number setup) b c true)
      → BeginsWithGo (map (λ (d : Deed Mail). d.entry) pause.between.deeds) → (behind : Behind step n budgets c made end)
      → NextBegins setup journal mark (behind.round.marked.mark ∷ behind.later)
  next_begins step n budgets b c mark made end is at_b pause go behind =
      let op : ℕ = operator_number setup in
      let first : List JournalEntry = map (λ (d : Deed Mail). d.entry) pause.between.deeds in
      let second : List JournalEntry = entries_of (behind.round.phase.notes op) in
      (between_marks setup z b behind.stand journal mark behind.round.marked.mark (first ++ second) merge at_b
      (mark_of setup behind.stand z c.marks behind.round.marked behind.is_whole behind.on)
      (behind.round.phase.journals op ∙ ap (λ (xs : List JournalEntry). xs ++ second) (pause_journal op b c true pause)
      ∙ append_assoc (b.view.journal op) first second)).0.1
      (begins_first first second go
      (without_go (behind.round.phase.notes op) (round_without_go setup c behind.stand (whole_pause setup b c true is pause) behind.round)))

  marks_behind : (b c : Stand) (round : Round b c) (later : List (List ℕ)) → z.marks ≡ c.marks ++ later → z.marks ≡ b.marks ++ round.marked.mark ∷ later
  marks_behind b c round later whole = whole ∙ ap (λ (xs : List (List ℕ)). xs ++ later) round.marked.marks ∙ append_assoc b.marks (round.marked.mark ∷ []) later

  -- ---- one mark before what is named behind it

  module _ (step n : ℕ) (budget : Budget) (b c : Stand) (is : IsWhole setup c) (ran : Ran own carried setup c.view) where
    -- another round
    pub behind_round : (budgets : List Budget) (made : List ℕ) (end : RunEnd) → RoundNames setup budget step (n + 1) b c GoesOn
        → Behind step (n + 1) (budget ∷ budgets) c made end → Behind step n (budget ∷ budgets) b made end
    behind_round budgets made end names behind =
        let on : GoesOnTo c.view z.view = behind_on step (n + 1) (budget ∷ budgets) c made end behind in
        let marks : List (List ℕ) = behind.round.marked.mark ∷ behind.later in
        let whole : z.marks ≡ b.marks ++ names.round.marked.mark ∷ marks = marks_behind b c names.round marks behind.whole in
        record {
          stand = c;
          round = names.round;
          on = on;
          is_whole = is;
          later = marks;
          whole = whole;
          name = λ world stand. name_goes setup journal world (length b.marks) step n budget budgets names.round.marked.mark marks made end
              (decide_at_mark budget step (n + 1) b c GoesOn names is on ran marks whole world stand)
              (none_begins step (n + 1) (budget ∷ budgets) c names.round.marked.mark made end is (mark_of setup c z b.marks names.round.marked is on) behind)
              (subst (λ (k : ℕ). MarksName setup journal world k step (n + 1) (budget ∷ budgets) marks made end)
              (one_more b c names.round) (behind.name world stand));
          last = behind.last;
          is_last = behind.is_last;
          ends = behind.ends;
        }

    -- the end by a limit
    pub behind_end : (budgets : List Budget) (end : RunEnd) → RoundNames setup budget step (n + 1) b c (Ends end) → z ≡ c
        → Behind step n (budget ∷ budgets) b ((n + 1) ∷ []) end
    behind_end budgets end names same =
        let on : GoesOnTo c.view z.view = λ k. ([], ap (λ (s : Stand). s.view.journal k) same ∙ sym (append-nil (c.view.journal k))) in
        let whole : z.marks ≡ b.marks ++ names.round.marked.mark ∷ [] = ap (λ (s : Stand). s.marks) same ∙ names.round.marked.marks in
        record {
          stand = c;
          round = names.round;
          on = on;
          is_whole = is;
          later = [];
          whole = whole;
          name = λ world stand. name_ends setup journal world (length b.marks) step n budget budgets names.round.marked.mark end
              (decide_at_mark budget step (n + 1) b c (Ends end) names is on ran [] whole world stand);
          last = names.round.marked.mark;
          is_last = refl;
          ends = λ k. (mark_of setup c z b.marks names.round.marked is on).lengths k ∙ sym (ap (λ (s : Stand). length (s.view.journal k)) same);
        }

    -- the end of the last group, where the operator did nothing at its mark
    pub behind_settled : RoundNames setup budget step (n + 1) b c IsQuiet → z.marks ≡ c.marks → ((k : ℕ) → z.view.journal k ≡ c.view.journal k)
        → Behind step n (budget ∷ []) b ((n + 1) ∷ []) Settled
    behind_settled names marks journals =
        let on : GoesOnTo c.view z.view = λ k. ([], journals k ∙ sym (append-nil (c.view.journal k))) in
        let whole : z.marks ≡ b.marks ++ names.round.marked.mark ∷ [] = marks ∙ names.round.marked.marks in
        record {
          stand = c;
          round = names.round;
          on = on;
          is_whole = is;
          later = [];
          whole = whole;
          name = λ world stand. inr (inl (decide_at_mark budget step (n + 1) b c IsQuiet names is on ran [] whole world stand, (refl, refl, refl)));
          last = names.round.marked.mark;
          is_last = refl;
          ends = λ k. (mark_of setup c z b.marks names.round.marked is on).lengths k ∙ sym (ap (λ (xs : List JournalEntry). length xs) (journals k));
        }

    -- what is known of the world of a stand that is quiet
    pub quiet_there : RoundNames setup budget step (n + 1) b c IsQuiet → GoesOnTo c.view z.view
        → (w : World) × IsSeenAs own carried setup c.view w × (¬ HasUnissued setup w.operator)
    quiet_there names on =
        let h = world_behind b c names.round is on ran in
        (h.0, h.2, (nothing_open setup h.0 (names.names h.0 (h.2, record { events = h.1.events; run = h.1.run })).1.quiet).0)

    -- the end of a group, behind which the next one begins
    pub behind_group : (d : Stand) (next : Budget) (budgets : List Budget) (made : List ℕ) (end : RunEnd)
        → RoundNames setup budget step (n + 1) b c IsQuiet → (pause : Pause (operator_number setup) c d true)
        → Behind (step + 1) 0 (next ∷ budgets) d made end → Behind step n (budget ∷ next ∷ budgets) b ((n + 1) ∷ made) end
    behind_group d next budgets made end names pause behind =
        let on : GoesOnTo c.view z.view =
        then_on c.view d.view z.view (pause_on (operator_number setup) c d true pause) (behind_on (step + 1) 0 (next ∷ budgets) d made end behind) in
        let marks : List (List ℕ) = behind.round.marked.mark ∷ behind.later in
        let w = quiet_there names on in
        let whole : z.marks ≡ b.marks ++ names.round.marked.mark ∷ marks =
        marks_behind b c names.round marks (behind.whole ∙ ap (λ (xs : List (List ℕ)). xs ++ marks) pause.marks) in
        let count : length d.marks ≡ length b.marks + 1 = ap (λ (xs : List (List ℕ)). length xs) pause.marks ∙ one_more b c names.round in
        record {
          stand = c;
          round = names.round;
          on = on;
          is_whole = is;
          later = marks;
          whole = whole;
          name = λ world stand. inr (inl (
            decide_at_mark budget step (n + 1) b c IsQuiet names is on ran marks whole world stand,
            (
              next_begins (step + 1) 0 (next ∷ budgets) c d names.round.marked.mark made end is (mark_of setup c z b.marks names.round.marked is on) pause
                  (pause_goes setup c d w.0 is w.1 w.2 pause) behind,
              (made, refl, subst (λ (k : ℕ). MarksName setup journal world k (step + 1) 0 (next ∷ budgets) marks made end) count (behind.name world stand)),
            ),
          ));
          last = behind.last;
          is_last = behind.is_last;
          ends = behind.ends;
        }

  -- the group at work in the world behind a mark is as many as have begun
  pub groups_behind : (b c : Stand) (round : Round b c) (is : IsWhole setup c) (on : GoesOnTo c.view z.view) (ran : Ran own carried setup c.view)
      → (world_behind b c round is on ran).0.operator.group ≡ groups_at setup c
  groups_behind b c round is on ran =
      let h = world_behind b c round is on ran in
      groups_counted setup h.1.events (upto (before round.marked.mark) journal) h.0 h.1.entries_of h.1.run
      ∙ ap (λ (xs : List JournalEntry). length (filter is_go xs))
      ((up_to_mark c.view z.view round.marked.mark journal (mark_of setup c z b.marks round.marked is on) merge).each (operator_number setup))
