-- The marks of small laboratories.
use Rattle.std.proofs.Common.{◌≡◌, ◌≢◌, ◌<◌, ◌≤◌, ℕ, zero, suc, ◌==◌, Bool, true, false, cond, List, [], ◌∷◌, length, Option}
use Rattle.std.proofs.Common.{Some, None, is_some, refl, sym, ap, ◌∙◌, subst, inl, inr, lit<, lit≤, arith}
use Rattle.std.specs.FinMap as map
use Rattle.std.specs.Prelude.{slice_get}
use Rattle.std.specs.List.{AllByRecursion, last_or}
use Rattle.std.proofs.lemmas.Bool.Decides.{nat_tests}
use Rattle.std.proofs.lemmas.Option.{same_Some}
use Rattle.ring_net.specs.declared.entry.JournalEntry.{JournalEntry}
use Rattle.journal_merge.specs.Merges.{entries_by}
use Rattle.graft_model.specs.Setups.{Setup, ScriptStep, SayStep, MoveStep, EvacuateStep, SettleStep, graft_at}
use Rattle.graft_model.specs.Parts.{OperatorPart, World}
use Rattle.graft_model.specs.First.{first_router, first_operator, first_world}
use Rattle.graft_model.specs.Quiet.{Quiet}
use Rattle.graft_steps.specs.declared.rest.Pending.TheVariants.{Script}
use Rattle.graft_actors.specs.Laws.{IsGo}
use Rattle.world_runs.specs.Marks.{before}
use Rattle.lab_report.specs.declared.lab.RunEnd.{RunEnd}
use Rattle.lab_report.specs.declared.lab.RunEnd.TheVariants.{Settled, Unsettled, StreamFull, JournalFull}
use Rattle.node_configs.specs.declared.budget.Budget.{Budget}
use Rattle.lab_run.specs.Ends.{NoneIsStuck, IsBelowLimits, MayEnd, MarkCounts, NoneBegins, MarksName, HasMarks}
use Rattle.rounds_worked.specs.Marks.{MarksField, Is, Empty, BeginsNone, IsLast, Whole, Name, NoField, HasMarksBut, FalseAloneInMarks}
use Rattle.rounds_worked.specs.Marks.{lone, once, twice, busy, calm, busy_at, usual, patient, one, hear_entry, begun_entry, note_entry}
use Rattle.rounds_worked.specs.Marks.{begun_second, mark_of, one_round, two_rounds, go_behind, two_behind}

-- ---- quiet worlds

abbrev is_say : Option ScriptStep → Bool
is_say None = false
is_say (Some (SayStep p bytes)) = true
is_say (Some (MoveStep p target)) = false
is_say (Some (EvacuateStep router)) = false
is_say (Some SettleStep) = false

pub not_some : {A : Type 0} (v : A) → ◌≡◌ {A = Option A} None (Some v) → ⊥
not_some v e = let apart : ◌≡◌ {A = Bool} false true = ap is_some e in cc

clean : (steps : List ScriptStep) (r : ℕ) → (first_router (lone steps) r).dirty ≡ map.empty
clean steps zero = refl
clean steps (suc r) = refl

-- where no step says or moves anything, whatever the operator has noted
pub quiet_in : (steps : List ScriptStep) (part : OperatorPart) → ((n p : ℕ) (bytes : List ℕ) → slice_get steps n ≡ Some (SayStep p bytes) → ⊥) → ((k : ℕ)
    → graft_at (lone steps) k ≡ None)
    → Quiet (lone steps) (record (first_world (lone steps)) { operator = part })
quiet_in steps part none made = record {
  mesh = λ a b. refl;
  outward = λ r p. refl;
  inward = λ p r. refl;
  orders = λ r. refl;
  reports = λ r. refl;
  says = λ p. refl;
  homeward = λ p. refl;
  remoteward = λ p. refl;
  decided = clean steps;
  told_in = λ r q. refl;
  told_out = λ r p. refl;
  places = λ r p. tt;
  issued = λ n p bytes e group. absurd (none n p bytes e);
  ended = λ g known group target. absurd (not_some g (sym (made g.graft) ∙ known));
}

pub not_say : (step : Option ScriptStep) (p : ℕ) (bytes : List ℕ) → is_say step ≡ false → step ≡ Some (SayStep p bytes) → ⊥
not_say step p bytes none e = let h : ◌≡◌ {A = Bool} false true = sym none ∙ ap is_say e in absurd cc

pub once_says : (n p : ℕ) (bytes : List ℕ) → slice_get once.steps n ≡ Some (SayStep p bytes) → ⊥
once_says zero p bytes e = not_say _ p bytes refl e
once_says (suc n) p bytes e = not_say _ p bytes refl e

twice_says : (n p : ℕ) (bytes : List ℕ) → slice_get twice.steps n ≡ Some (SayStep p bytes) → ⊥
twice_says zero p bytes e = not_say _ p bytes refl e
twice_says (suc zero) p bytes e = not_say _ p bytes refl e
twice_says (suc (suc n)) p bytes e = not_say _ p bytes refl e

quiet_once : Quiet once (first_world once)
quiet_once = quiet_in once.steps (first_operator once) once_says (λ k. refl)

quiet_twice : Quiet twice (first_world twice)
quiet_twice = quiet_in twice.steps (first_operator twice) twice_says (λ k. refl)

pub not_empty : {A : Type 0} (x : A) (xs : List A) → x ∷ xs ≡ [] → ⊥
not_empty x xs e = cc

not_quiet : (setup : Setup) (w : World) → Quiet setup (busy w) → ⊥
not_quiet setup w q = not_empty _ _ (q.says 0)

-- no router has a session
none_stuck : (steps : List ScriptStep) → NoneIsStuck (lone steps) (first_world (lone steps))
none_stuck steps p n stuck = let e = stuck.stuck.live.is in absurd cc

below : (steps : List ScriptStep) (c : MarkCounts) → c.events < 4194304 → IsBelowLimits (lone steps) (first_world (lone steps)) c
below steps c room = record { free = none_stuck steps; room = room }

-- ---- entries before a mark

not_beyond : (a k : ℕ) → a < 2 → (a == suc (suc k)) ≡ false
not_beyond a k h = grind (arith, nat_tests)

none_beyond : (k : ℕ) (journal : List JournalEntry) → AllByRecursion (λ e. e.actor < 2) journal → length (entries_by (suc (suc k)) journal) ≡ 0
none_beyond k [] all = refl
none_beyond k (e ∷ es) all = ap (λ t. length (cond t (e ∷ entries_by (suc (suc k)) es) (entries_by (suc (suc k)) es))) (not_beyond e.actor k all.0) ∙
    none_beyond k es all.1

whole_of : (journal : List JournalEntry) (r o : ℕ) → r ≡ length (entries_by 0 journal) → o ≡ length (entries_by 1 journal)
    → AllByRecursion (λ e. e.actor < 2) journal
    → (k : ℕ) → before (mark_of r o) k ≡ length (entries_by k journal)
whole_of journal r o e f all zero = e
whole_of journal r o e f all (suc zero) = f
whole_of journal r o e f all (suc (suc k)) = sym (none_beyond k journal all)

whole_of_none : (k : ℕ) → before (mark_of 0 0) k ≡ length (entries_by k [])
whole_of_none = whole_of [] 0 0 refl refl tt

-- ---- all fields, and all but one

pub marks_of : (setup : Setup) (journal : List JournalEntry) (world : ℕ → World) (budgets : List Budget) (all : List (List ℕ)) (made : List ℕ) (end : RunEnd)
    → HasMarksBut NoField setup journal world budgets all made end → HasMarks setup journal world budgets all made end
marks_of setup journal world budgets all made end b = record {
  first = b.first;
  marks = b.marks;
  is = b.is (λ e. cc);
  empty = b.empty (λ e. cc);
  begins_none = b.begins_none (λ e. cc);
  last = b.last;
  is_last = b.is_last (λ e. cc);
  whole = b.whole (λ e. cc);
  name = b.name (λ e. cc);
}

pub of_marks : (but : MarksField) (setup : Setup) (journal : List JournalEntry) (world : ℕ → World)
    (budgets : List Budget) (all : List (List ℕ)) (made : List ℕ) (end : RunEnd)
    → HasMarks setup journal world budgets all made end → HasMarksBut but setup journal world budgets all made end
of_marks but setup journal world budgets all made end h = record {
  first = h.first;
  marks = h.marks;
  is = λ other. h.is;
  empty = λ other. h.empty;
  begins_none = λ other. h.begins_none;
  last = h.last;
  is_last = λ other. h.is_last;
  whole = λ other. h.whole;
  name = λ other. h.name;
}

pub heads : {A : Type 0} (x y : A) (xs ys : List A) → x ∷ xs ≡ y ∷ ys → x ≡ y
heads x y xs ys e = cc

pub tails : {A : Type 0} (x y : A) (xs ys : List A) → x ∷ xs ≡ y ∷ ys → xs ≡ ys
tails x y xs ys e = cc

-- what is so of the parts of a list, is so of its parts as they are written
of_parts : (P : List ℕ → List (List ℕ) → Type 0) (f g : List ℕ) (ms ns : List (List ℕ)) → f ∷ ms ≡ g ∷ ns → P g ns → P f ms
of_parts P f g ms ns e x = subst (λ y. P y ms) (sym (heads f g ms ns e)) (subst (λ y. P g y) (sym (tails f g ms ns e)) x)

-- ---- runs that have their marks

may_end_once : (events : ℕ) → MayEnd once (first_world once) usual (record { events = events; step = 1; rounds = 1 })
may_end_once events = record { quiet = quiet_once; enough = lit≤ tt }

may_end_twice : (events step : ℕ) → MayEnd twice (first_world twice) usual (record { events = events; step = step; rounds = 1 })
may_end_twice events step = record { quiet = quiet_twice; enough = lit≤ tt }

-- the one round is the last
once_named : (journal : List JournalEntry) → MarksName once journal (calm once) 1 1 0 (usual ∷ []) (mark_of 0 0 ∷ []) (1 ∷ []) Settled
once_named journal = inr (inl ((below once.steps _ (lit< tt), may_end_once 0), (refl, refl, refl)))

-- the first mark is empty
built : (but : MarksField) (setup : Setup) (journal : List JournalEntry) (world : ℕ → World)
    (budgets : List Budget) (marks : List (List ℕ)) (made : List ℕ) (end : RunEnd) (last : List ℕ)
    → (but ≢ BeginsNone → NoneBegins setup journal (mark_of 0 0) marks) → (but ≢ IsLast → last_or (Some (mark_of 0 0)) marks ≡ Some last)
    → (but ≢ Whole → (k : ℕ) → before last k ≡ length (entries_by k journal)) → (but ≢ Name → MarksName setup journal world 1 1 0 budgets marks made end)
    → HasMarksBut but setup journal world budgets (mark_of 0 0 ∷ marks) made end
built but setup journal world budgets marks made end last none is whole name = record {
  first = mark_of 0 0;
  marks = marks;
  is = λ other. refl;
  empty = λ other. (refl, (refl, tt));
  begins_none = none;
  last = last;
  is_last = is;
  whole = whole;
  name = name;
}

pub one_round_named : HasMarks once [] (calm once) (usual ∷ []) one_round (1 ∷ []) Settled
one_round_named = marks_of once [] (calm once) (usual ∷ []) one_round (1 ∷ []) Settled
    (built NoField once [] (calm once) (usual ∷ []) (mark_of 0 0 ∷ []) (1 ∷ []) Settled (mark_of 0 0)
    (λ other. tt) (λ other. refl) (λ other. whole_of_none) (λ other. once_named []))

pub two_groups_named : HasMarks twice (begun_entry ∷ []) (calm twice) (usual ∷ usual ∷ []) go_behind (1 ∷ 1 ∷ []) Settled
two_groups_named = marks_of twice (begun_entry ∷ []) (calm twice) (usual ∷ usual ∷ []) go_behind (1 ∷ 1 ∷ []) Settled
    (built NoField twice (begun_entry ∷ []) (calm twice) (usual ∷ usual ∷ []) (mark_of 0 0 ∷ mark_of 0 1 ∷ []) (1 ∷ 1 ∷ []) Settled (mark_of 0 1)
    (λ other. tt) (λ other. refl) (λ other. whole_of (begun_entry ∷ []) 0 1 refl refl (lit< tt, tt))
    (λ other. inr (inl (
      (below twice.steps _ (lit< tt), may_end_twice 0 1),
      ((refl, tt), ((1 ∷ []), refl, inr (inl ((below twice.steps _ (lit< tt), may_end_twice 1 2), (refl, refl, refl))))),
    ))))

-- ---- one field is false, and all others hold

pub another_list : FalseAloneInMarks Is once [] (calm once) (usual ∷ []) (mark_of 0 0 ∷ []) (1 ∷ []) Settled
another_list = (
  record {
    first = mark_of 0 0;
    marks = mark_of 0 0 ∷ [];
    is = λ other. absurd (other refl);
    empty = λ other. (refl, (refl, tt));
    begins_none = λ other. tt;
    last = mark_of 0 0;
    is_last = λ other. refl;
    whole = λ other. whole_of_none;
    name = λ other. once_named [];
  },
  λ h. of_parts (λ f ms. MarksName once [] (calm once) 1 1 0 (usual ∷ []) ms (1 ∷ []) Settled) _ _ _ _ h.is h.name,
)

pub begun_before : FalseAloneInMarks Empty once (hear_entry ∷ []) (calm once) (usual ∷ []) (mark_of 1 0 ∷ mark_of 1 0 ∷ []) (1 ∷ []) Settled
begun_before = (
  record {
    first = mark_of 1 0;
    marks = mark_of 1 0 ∷ [];
    is = λ other. refl;
    empty = λ other. absurd (other refl);
    begins_none = λ other. tt;
    last = mark_of 1 0;
    is_last = λ other. refl;
    whole = λ other. whole_of (hear_entry ∷ []) 1 0 refl refl (lit< tt, tt);
    name = λ other. inr (inl ((below once.steps _ (lit< tt), may_end_once 1), (refl, refl, refl)));
  },
  λ h. let all = of_parts (λ f ms. AllByRecursion (λ n. n ≡ 0) f) _ _ _ _ h.is h.empty in let one : ◌≡◌ {A = ℕ} 1 0 = all.0 in absurd cc,
)

pub go_in_first_round : FalseAloneInMarks BeginsNone once (begun_entry ∷ []) (calm once) (usual ∷ []) (mark_of 0 0 ∷ mark_of 0 1 ∷ []) (1 ∷ []) Settled
go_in_first_round = (
  built BeginsNone once (begun_entry ∷ []) (calm once) (usual ∷ []) (mark_of 0 1 ∷ []) (1 ∷ []) Settled (mark_of 0 1)
      (λ other. absurd (other refl)) (λ other. refl) (λ other. whole_of (begun_entry ∷ []) 0 1 refl refl (lit< tt, tt))
      (λ other. inr (inl ((below once.steps _ (lit< tt), may_end_once 1), (refl, refl, refl)))),
  λ h. (of_parts (λ f ms. NoneBegins once (begun_entry ∷ []) f ms) _ _ _ _ h.is h.begins_none).0 refl,
)

-- an entry stands behind the last mark: that one is another, or the entry isn't of the run
behind_the_last : HasMarks once (hear_entry ∷ []) (calm once) (usual ∷ []) one_round (1 ∷ []) Settled → ⊥
behind_the_last h =
    let last = same_Some (mark_of 0 0) h.last (of_parts (λ f ms. last_or (Some f) ms ≡ Some h.last) _ _ _ _ h.is h.is_last) in
    let none : ◌≡◌ {A = ℕ} 0 1 = subst (λ x. before x 0 ≡ length (entries_by 0 (hear_entry ∷ []))) (sym last) (h.whole 0) in
    absurd cc

pub another_last : FalseAloneInMarks IsLast once (hear_entry ∷ []) (calm once) (usual ∷ []) one_round (1 ∷ []) Settled
another_last = (
  built IsLast once (hear_entry ∷ []) (calm once) (usual ∷ []) (mark_of 0 0 ∷ []) (1 ∷ []) Settled (mark_of 1 0)
      (λ other. tt) (λ other. absurd (other refl)) (λ other. whole_of (hear_entry ∷ []) 1 0 refl refl (lit< tt, tt)) (λ other. once_named (hear_entry ∷ [])),
  behind_the_last,
)

pub more_behind : FalseAloneInMarks Whole once (hear_entry ∷ []) (calm once) (usual ∷ []) one_round (1 ∷ []) Settled
more_behind = (
  built Whole once (hear_entry ∷ []) (calm once) (usual ∷ []) (mark_of 0 0 ∷ []) (1 ∷ []) Settled (mark_of 0 0)
      (λ other. tt) (λ other. refl) (λ other. absurd (other refl)) (λ other. once_named (hear_entry ∷ [])),
  behind_the_last,
)

-- ---- marks that name something else

-- where all other fields hold
named_wrongly : (setup : Setup) (journal : List JournalEntry) (world : ℕ → World)
    (budgets : List Budget) (marks : List (List ℕ)) (made : List ℕ) (end : RunEnd) (last : List ℕ)
    → NoneBegins setup journal (mark_of 0 0) marks → last_or (Some (mark_of 0 0)) marks ≡ Some last → ((k : ℕ) → before last k ≡ length (entries_by k journal))
    → (MarksName setup journal world 1 1 0 budgets marks made end → ⊥) → FalseAloneInMarks Name setup journal world budgets (mark_of 0 0 ∷ marks) made end
named_wrongly setup journal world budgets marks made end last none is whole otherwise = (
  built Name setup journal world budgets marks made end last
      (λ other. none) (λ other. is) (λ other. whole) (λ other. absurd (other refl)),
  λ h. otherwise (of_parts (λ f ms. MarksName setup journal world 1 1 0 budgets ms made end) _ _ _ _ h.is h.name),
)

-- the same of one settle and one round without entries
named_wrongly_once : (world : ℕ → World) (budget : Budget) (made : List ℕ) (end : RunEnd)
    → (MarksName once [] world 1 1 0 (budget ∷ []) (mark_of 0 0 ∷ []) made end → ⊥) → FalseAloneInMarks Name once [] world (budget ∷ []) one_round made end
named_wrongly_once world budget made end otherwise = named_wrongly once [] world (budget ∷ []) (mark_of 0 0 ∷ []) made end (mark_of 0 0) tt refl
    whole_of_none otherwise

pub apart : (m n : ℕ) → m < n → m ≡ n → ⊥
apart m n h e = absurd (omega (arith, h, e))

pub less : (m n : ℕ) → m < n → n ≤ m → ⊥
less m n h k = absurd (omega arith)

another_round : MarksName once [] (calm once) 1 1 0 (usual ∷ []) (mark_of 0 0 ∷ mark_of 0 0 ∷ []) (2 ∷ []) Settled → ⊥
another_round (inl goes) = goes.0.1 (may_end_once 0)
another_round (inr (inl over)) = not_empty _ _ over.1.0
another_round (inr (inr ends)) = ends.0

pub round_though_quiet : FalseAloneInMarks Name once [] (calm once) (usual ∷ []) two_rounds (2 ∷ []) Settled
round_though_quiet = named_wrongly once [] (calm once) (usual ∷ []) (mark_of 0 0 ∷ mark_of 0 0 ∷ []) (2 ∷ []) Settled (mark_of 0 0) tt refl whole_of_none
    another_round

too_many : MarksName once [] (busy_at 1 once) 1 1 0 (one ∷ []) (mark_of 0 0 ∷ mark_of 0 0 ∷ []) (2 ∷ []) Settled → ⊥
too_many (inl goes) = less 1 2 (lit< tt) goes.0.2
too_many (inr (inl over)) = not_empty _ _ over.1.0
too_many (inr (inr ends)) = ends.0

pub round_past_budget : FalseAloneInMarks Name once [] (busy_at 1 once) (one ∷ []) two_rounds (2 ∷ []) Settled
round_past_budget = named_wrongly once [] (busy_at 1 once) (one ∷ []) (mark_of 0 0 ∷ mark_of 0 0 ∷ []) (2 ∷ []) Settled (mark_of 0 0) tt refl whole_of_none
    too_many

settled_busy : MarksName once [] (busy_at 1 once) 1 1 0 (usual ∷ []) (mark_of 0 0 ∷ []) (1 ∷ []) Settled → ⊥
settled_busy (inl goes) = goes.2
settled_busy (inr (inl over)) = not_quiet once (first_world once) over.0.1.quiet
settled_busy (inr (inr ends)) = ends.0

pub settled_though_busy : FalseAloneInMarks Name once [] (busy_at 1 once) (usual ∷ []) one_round (1 ∷ []) Settled
settled_though_busy = named_wrongly_once (busy_at 1 once) usual (1 ∷ []) Settled settled_busy

settled_early : MarksName once [] (calm once) 1 1 0 (patient ∷ []) (mark_of 0 0 ∷ []) (1 ∷ []) Settled → ⊥
settled_early (inl goes) = goes.2
settled_early (inr (inl over)) = less 1 2 (lit< tt) over.0.1.enough
settled_early (inr (inr ends)) = ends.0

pub settled_before_least : FalseAloneInMarks Name once [] (calm once) (patient ∷ []) one_round (1 ∷ []) Settled
settled_before_least = named_wrongly_once (calm once) patient (1 ∷ []) Settled settled_early

counted_two : MarksName once [] (calm once) 1 1 0 (usual ∷ []) (mark_of 0 0 ∷ []) (2 ∷ []) Settled → ⊥
counted_two (inl goes) = goes.2
counted_two (inr (inl over)) = let two : ◌≡◌ {A = ℕ} 2 1 = heads _ _ _ _ over.1.1 in absurd cc
counted_two (inr (inr ends)) = ends.0

pub made_is_wrong : FalseAloneInMarks Name once [] (calm once) (usual ∷ []) one_round (2 ∷ []) Settled
made_is_wrong = named_wrongly_once (calm once) usual (2 ∷ []) Settled counted_two

in_budget : MarksName once [] (busy_at 1 once) 1 1 0 (usual ∷ []) (mark_of 0 0 ∷ []) (1 ∷ []) (Unsettled 1 1 Script) → ⊥
in_budget (inl goes) = goes.2
in_budget (inr (inl over)) = not_quiet once (first_world once) over.0.1.quiet
in_budget (inr (inr ends)) = less 1 2048 (lit< tt) ends.0.made

pub unsettled_in_budget : FalseAloneInMarks Name once [] (busy_at 1 once) (usual ∷ []) one_round (1 ∷ []) (Unsettled 1 1 Script)
unsettled_in_budget = named_wrongly_once (busy_at 1 once) usual (1 ∷ []) (Unsettled 1 1 Script) in_budget

below_limit : MarksName once [] (calm once) 1 1 0 (usual ∷ []) (mark_of 0 0 ∷ []) (1 ∷ []) (JournalFull 0) → ⊥
below_limit (inl goes) = goes.2
below_limit (inr (inl over)) = let e = over.1.2 in absurd cc
below_limit (inr (inr ends)) = less 0 4194304 (lit< tt) ends.0.1

pub journal_not_full : FalseAloneInMarks Name once [] (calm once) (usual ∷ []) one_round (1 ∷ []) (JournalFull 0)
journal_not_full = named_wrongly_once (calm once) usual (1 ∷ []) (JournalFull 0) below_limit

none_there : MarksName once [] (calm once) 1 1 0 (usual ∷ []) (mark_of 0 0 ∷ []) (1 ∷ []) (StreamFull (record { 0 = 0 }) 1044500) → ⊥
none_there (inl goes) = goes.2
none_there (inr (inl over)) = let e = over.1.2 in absurd cc
none_there (inr (inr ends)) = none_stuck once.steps _ _ ends.0.lowest.0

pub stream_not_full : FalseAloneInMarks Name once [] (calm once) (usual ∷ []) one_round (1 ∷ []) (StreamFull (record { 0 = 0 }) 1044500)
stream_not_full = named_wrongly_once (calm once) usual (1 ∷ []) (StreamFull (record { 0 = 0 }) 1044500) none_there

-- ---- groups that begin elsewhere

none_begins : MarksName twice [] (calm twice) 1 1 0 (usual ∷ usual ∷ []) (mark_of 0 0 ∷ mark_of 0 0 ∷ []) (1 ∷ 1 ∷ []) Settled → ⊥
none_begins (inl goes) = goes.0.1 (may_end_twice 0 1)
none_begins (inr (inl over)) = over.1.0
none_begins (inr (inr ends)) = ends.0

pub no_go_behind : FalseAloneInMarks Name twice [] (calm twice) (usual ∷ usual ∷ []) two_rounds (1 ∷ 1 ∷ []) Settled
no_go_behind = named_wrongly twice [] (calm twice) (usual ∷ usual ∷ []) (mark_of 0 0 ∷ mark_of 0 0 ∷ []) (1 ∷ 1 ∷ []) Settled (mark_of 0 0) tt refl
    whole_of_none none_begins

no_go : IsGo note_entry → ⊥
no_go e = let other : ◌≡◌ {A = ℕ} 25 26 = e in absurd cc

begins_late : MarksName twice (note_entry ∷ begun_second ∷ []) (calm twice) 1 1 0 (usual ∷ usual ∷ []) (mark_of 0 0 ∷ mark_of 0 2 ∷ []) (1 ∷ 1 ∷ []) Settled → ⊥
begins_late (inl goes) = goes.0.1 (may_end_twice 0 1)
begins_late (inr (inl over)) = no_go over.1.0.0
begins_late (inr (inr ends)) = ends.0

pub go_one_late : FalseAloneInMarks Name twice (note_entry ∷ begun_second ∷ []) (calm twice) (usual ∷ usual ∷ []) two_behind (1 ∷ 1 ∷ []) Settled
go_one_late = named_wrongly twice (note_entry ∷ begun_second ∷ []) (calm twice) (usual ∷ usual ∷ []) (mark_of 0 0 ∷ mark_of 0 2 ∷ []) (1 ∷ 1 ∷ []) Settled
    (mark_of 0 2)
    tt refl (whole_of (note_entry ∷ begun_second ∷ []) 0 2 refl refl (lit< tt, (lit< tt, tt))) begins_late

begins_twice : MarksName twice (begun_entry ∷ begun_second ∷ []) (calm twice) 1 1 0 (usual ∷ usual ∷ []) (mark_of 0 0 ∷ mark_of 0 2 ∷ []) (1 ∷ 1 ∷ []) Settled
    → ⊥
begins_twice (inl goes) = goes.0.1 (may_end_twice 0 1)
begins_twice (inr (inl over)) = over.1.0.1.0 refl
begins_twice (inr (inr ends)) = ends.0

pub two_gos : FalseAloneInMarks Name twice (begun_entry ∷ begun_second ∷ []) (calm twice) (usual ∷ usual ∷ []) two_behind (1 ∷ 1 ∷ []) Settled
two_gos = named_wrongly twice (begun_entry ∷ begun_second ∷ []) (calm twice)
    (usual ∷ usual ∷ []) (mark_of 0 0 ∷ mark_of 0 2 ∷ []) (1 ∷ 1 ∷ []) Settled (mark_of 0 2)
    tt refl (whole_of (begun_entry ∷ begun_second ∷ []) 0 2 refl refl (lit< tt, (lit< tt, tt))) begins_twice

begins_busy : MarksName once (begun_entry ∷ []) (busy_at 1 once) 1 1 0 (usual ∷ []) (mark_of 0 0 ∷ mark_of 0 1 ∷ []) (2 ∷ []) Settled → ⊥
begins_busy (inl goes) = goes.1.0 refl
begins_busy (inr (inl over)) = not_empty _ _ over.1.0
begins_busy (inr (inr ends)) = ends.0

pub go_while_busy : FalseAloneInMarks Name once (begun_entry ∷ []) (busy_at 1 once) (usual ∷ []) go_behind (2 ∷ []) Settled
go_while_busy = named_wrongly once (begun_entry ∷ []) (busy_at 1 once) (usual ∷ []) (mark_of 0 0 ∷ mark_of 0 1 ∷ []) (2 ∷ []) Settled (mark_of 0 1)
    tt refl (whole_of (begun_entry ∷ []) 0 1 refl refl (lit< tt, tt)) begins_busy
