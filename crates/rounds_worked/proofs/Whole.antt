-- Rounds in which one field is false of their run.
use Rattle.std.proofs.Common.{◌≡◌, ◌<◌, ◌≤◌, ◌+◌, ◌==◌, ℕ, zero, suc, false, cond, List, [], ◌∷◌, Some}
use Rattle.std.proofs.Common.{None, refl, sym, ap, ◌∙◌, subst, inl, inr, lit<, lit≤, arith}
use Rattle.std.specs.Prelude.{slice_get}
use Rattle.std.proofs.lemmas.Bool.Decides.{nat_tests}
use Rattle.ring_net.specs.declared.entry.JournalEntry.{JournalEntry}
use Rattle.journal_merge.specs.Merges.{AreSorted, entries_by}
use Rattle.graft_model.specs.Setups.{Setup, SayStep}
use Rattle.graft_model.specs.Parts.{OperatorPart, World}
use Rattle.graft_model.specs.First.{first_world}
use Rattle.graft_model.specs.Quiet.{Quiet}
use Rattle.graft_model.specs.declared.event.OperatorEvent.TheVariants.{Go}
use Rattle.graft_model.specs.Steps.{Event, ByOperator, Run}
use Rattle.graft_actors.specs.Actors.{Router, FarSide, Operator}
use Rattle.graft_actors.specs.Laws.{IsEntryOf, AreEntriesOf}
use Rattle.real_rounds.specs.Entries.{count_taken_from}
use Rattle.real_rounds.specs.Whole.{Slices, RoundGoes, Drains}
use Rattle.rounds_worked.specs.Marks.{once, busy, hear_entry, begun_entry}
use Rattle.rounds_worked.specs.Whole.{RoundField, Merged, EntriesOf, Runs, NoField, RoundGoesBut, FalseAloneInRound, thrice, next_group, first_group}
use Rattle.rounds_worked.specs.Whole.{last_group, two_gos, none_noted, slices_of_one, groups_in_order, out_of_order, ordered, admitted}
use Rattle.rounds_worked.proofs.Marks.{apart, less, not_empty, not_say, quiet_in}

-- ---- all fields, and all but one

pub goes_of : (setup : Setup) (start : World) (slices : Slices) (events : List Event) (end : World) → RoundGoesBut NoField setup start slices events end
    → RoundGoes setup start slices events end
goes_of setup start slices events end b = record {
  entries = b.entries;
  merged = b.merged (λ e. cc);
  entries_of = b.entries_of (λ e. cc);
  run = b.run
      (λ e. cc);
}

pub of_goes : (but : RoundField) (setup : Setup) (start : World) (slices : Slices) (events : List Event) (end : World) → RoundGoes setup start slices events end
    → RoundGoesBut but setup start slices events end
of_goes but setup start slices events end h = record {
  entries = h.entries;
  merged = λ other. h.merged;
  entries_of = λ other. h.entries_of;
  run = λ other.
      h.run;
}

-- ---- two groups begin

thrice_says : (n p : ℕ) (bytes : List ℕ) → slice_get thrice.steps n ≡ Some (SayStep p bytes) → ⊥
thrice_says zero p bytes e = not_say _ p bytes refl e
thrice_says (suc zero) p bytes e = not_say _ p bytes refl e
thrice_says (suc (suc zero)) p bytes e = not_say _ p bytes refl e
thrice_says (suc (suc (suc n))) p bytes e = not_say _ p bytes refl e

quiet_with : (part : OperatorPart) → Quiet thrice (record first_group { operator = part })
quiet_with part = quiet_in thrice.steps part thrice_says (λ k. refl)

gos_run : Run thrice first_group two_gos last_group
gos_run = (
  next_group first_group,
  record {
    may = quiet_with first_group.operator;
    taken = None;
    sent = [];
    part = (next_group first_group).operator;
    row = record
        { further = lit< tt; takes = refl; sends = refl; effect = refl };
    without = first_group;
    took = refl;
    is = refl;
  },
  (
    last_group,
    record {
      may = quiet_with (next_group first_group).operator;
      taken = None;
      sent = [];
      part = last_group.operator;
      row = record
          { further = lit< tt; takes = refl; sends = refl; effect = refl };
      without = next_group first_group;
      took = refl;
      is = refl;
    },
    refl,
  ),
)

go_entry : (clock : ℕ) → IsEntryOf thrice (ByOperator Go) (record begun_entry { clock = clock })
go_entry clock = record { there = tt; maker = refl; coded = record { kind = refl; a = refl; b = refl; c = refl } }

-- the operator is actor 1
not_one : (k : ℕ) → (1 == suc (suc k)) ≡ false
not_one k = grind (arith, nat_tests)

one_not : (k : ℕ) → (suc (suc k) == 1) ≡ false
one_not k = grind (arith, nat_tests)

two_each : (c d : ℕ) (k : ℕ) → entries_by k (record begun_entry { clock = c } ∷ record begun_entry { clock = d } ∷ []) ≡ slices_of_one 1
    (record begun_entry { clock = c } ∷ record begun_entry { clock = d } ∷ []) k
two_each c d zero = refl
two_each c d (suc zero) = refl
two_each c d (suc (suc k)) = (λ i. cond (not_one k i) (record begun_entry { clock = c } ∷ cond (not_one k i) (record begun_entry { clock = d } ∷ []) [])
    (cond (not_one k i) (record begun_entry { clock = d } ∷ []) []))
    ∙ sym (ap (λ t. cond t (record begun_entry { clock = c } ∷ record begun_entry { clock = d } ∷ []) []) (one_not k))

pub two_gos_go : RoundGoes thrice first_group (slices_of_one 1 groups_in_order) two_gos last_group
two_gos_go = record {
  entries = groups_in_order;
  merged = record { each = two_each 1 2; sorted = ((inl (lit< tt), tt), (tt, tt)) };
  entries_of = (go_entry 1, (go_entry 2, tt));
  run = gos_run;
}

-- entries that are coded by two of the operator's events are all its own
by_operator : (entries : List JournalEntry) → AreEntriesOf thrice two_gos entries → entries_by 1 entries ≡ entries
by_operator [] are = absurd are
by_operator (a ∷ []) are = absurd are.1
by_operator (a ∷ b ∷ []) are = rw are.0.maker (rw are.1.0.maker refl)
by_operator (a ∷ b ∷ c ∷ entries) are = absurd are.1.1

not_less : ◌<◌ 2 1 → ⊥
not_less h = absurd (omega (arith, h))

none_of : (entries : List JournalEntry) → AreEntriesOf once [] entries → entries ≡ []
none_of [] are = refl
none_of (a ∷ entries) are = absurd are

two_or_none : (entries : List JournalEntry) → AreEntriesOf thrice two_gos entries → entries ≡ [] → ⊥
two_or_none [] are e = are
two_or_none (a ∷ entries) are e = not_empty a entries e

not_sorted : AreSorted out_of_order → ⊥
not_sorted sorted = elim sorted.0.0 [
  | inl less ↦ not_less less
  | inr same ↦ apart 1 2 (lit< tt) (sym same.0)
]

clocks_fall : RoundGoes thrice first_group (slices_of_one 1 out_of_order) two_gos last_group → ⊥
clocks_fall h =
    not_sorted (subst AreSorted (sym (by_operator h.entries h.entries_of) ∙ h.merged.each 1) h.merged.sorted)

pub not_by_clock : FalseAloneInRound Merged thrice first_group (slices_of_one 1 out_of_order) two_gos last_group
not_by_clock = (
  record {
    entries = out_of_order;
    merged = λ other. absurd (other refl);
    entries_of = λ other. (go_entry 2, (go_entry 1, tt));
    run = λ other.
        gos_run;
  },
  clocks_fall,
)

-- an entry that is no event's
no_event : RoundGoes once (first_world once) (slices_of_one 0 (hear_entry ∷ [])) [] (first_world once) → ⊥
no_event h = not_empty _ _ (sym (h.merged.each 0) ∙ ap (entries_by 0) (none_of h.entries h.entries_of))

pub entry_of_none : FalseAloneInRound Merged once (first_world once) (slices_of_one 0 (hear_entry ∷ [])) [] (first_world once)
entry_of_none = (record { entries = []; merged = λ other. absurd (other refl); entries_of = λ other. tt; run = λ other. refl }, no_event)

-- events that have no entries
not_noted : RoundGoes thrice first_group none_noted two_gos last_group → ⊥
not_noted h = two_or_none h.entries h.entries_of (sym (by_operator h.entries h.entries_of) ∙ h.merged.each 1)

pub events_unnoted : FalseAloneInRound EntriesOf thrice first_group none_noted two_gos last_group
events_unnoted = (
  record {
    entries = [];
    merged = λ other. record { each = λ k. refl; sorted = tt };
    entries_of = λ other. absurd (other refl);
    run = λ
        other. gos_run;
  },
  not_noted,
)

-- another world
other_world : RoundGoes once (first_world once) none_noted [] (busy (first_world once)) → ⊥
other_world h = not_empty 0 [] (ap (λ (w : World). w.says 0) h.run)

pub not_its_world : FalseAloneInRound Runs once (first_world once) none_noted [] (busy (first_world once))
not_its_world = (
  record {
    entries = [];
    merged = λ other. record { each = λ k. refl; sorted = tt };
    entries_of = λ other. tt;
    run = λ other. absurd
        (other refl);
  },
  other_world,
)

-- ---- what is taken in two rounds

pub left_for_two : Drains once ordered none_noted none_noted → ⊥
left_for_two drains = less 0 1 (lit< tt) (drains Operator (Router 0) tt (lit< tt))

zero≤ : (n : ℕ) → 0 ≤ n
zero≤ n = omega arith

drained : (r : ℕ) → r < 1 → 1 ≤ 0 + count_taken_from Operator (slices_of_one 0 (admitted ∷ []) r)
drained zero h = lit≤ tt
drained (suc r) h = absurd (omega (arith, h))

pub taken_in_two : Drains once ordered none_noted (slices_of_one 0 (admitted ∷ []))
taken_in_two Operator (Router r) known there = drained r there
taken_in_two Operator (FarSide p) known there = zero≤ _
taken_in_two Operator Operator known there = zero≤ _
taken_in_two (Router a) (Router b) known there = zero≤ _
taken_in_two (Router a) (FarSide p) known there = zero≤ _
taken_in_two (Router a) Operator known there = zero≤ _
taken_in_two (FarSide p) (Router b) known there = zero≤ _
taken_in_two (FarSide p) (FarSide q) known there = zero≤ _
taken_in_two (FarSide p) Operator known there = zero≤ _
