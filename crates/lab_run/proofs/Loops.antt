-- What the loops over rounds and groups keep.
use Rattle.std.proofs.Common.{◌≡◌, ℕ, ◌+◌, ◌<◌, Bool, false, List, [], ◌∷◌, ◌++◌, length, take, drop, get_or, Option, Some}
use Rattle.std.proofs.Common.{None, refl, sym, ap, ◌∙◌, subst, inl, inr, arith, take-append-drop, length-take-le}
use Rattle.std.specs.Prelude.{◌↔◌}
use Rattle.std.proofs.lemmas.List.{take_more, drop_more, get_or_default}
use Rattle.graft_model.specs.Setups.{Setup}
use Rattle.graft_model.specs.Parts.{World}
use Rattle.operator_state.specs.Holds.{IsHeldUp}
use Rattle.world_runs.specs.Marks.{operator_number}
use Rattle.world_nodes.specs.Edges.{HasCounts}
use Rattle.world_nodes.specs.Looks.{IsWorldAt}
use Rattle.world_nodes.specs.Ways.{Stand, Pause}
use Rattle.lab_report.specs.declared.lab.RunEnd.{RunEnd}
use Rattle.node_configs.specs.declared.budget.Budget.{Budget}
use Rattle.lab_run.specs.declared.end.Verdict.{Verdict}
use Rattle.lab_run.specs.declared.end.Verdict.TheVariants.{GoesOn}
use Rattle.lab_run.specs.Stories.{RoundNames, MakesRounds, OneMore, GroupGoes, PassesPause, PassAnswers, GroupAnswers, GroupsGo, NextGroup, RunGoes, verdict_of}

-- ---- small facts

-- the counts stay what they are
pub counts_back : (setup : Setup) (m n : ℕ × ℕ) → m ≡ n → HasCounts setup n → HasCounts setup m
counts_back setup m n same has = subst (λ (x : ℕ × ℕ). HasCounts setup x) (sym same) has

pub none_found : (found : Option RunEnd) → ((end : RunEnd) → found ≡ Some end → ⊥) → found ≡ None
none_found None none = refl
none_found (Some end) none = absurd (none end refl)

-- ---- the rounds of a group

module _ (setup : Setup) (budget : Budget) (step : ℕ) (a b c : Stand) (n : ℕ) (goes : MakesRounds setup budget step a n b)
    (found : Verdict) (names : RoundNames setup budget step (n + 1) b c found) where
  -- one round more
  pub round_more : found ≡ GoesOn → MakesRounds setup budget step a (n + 1) c
  round_more is = OneMore n goes (subst (λ (v : Verdict). RoundNames setup budget step (n + 1) b c v) is names)

  -- the round at whose mark the group ends
  pub group_ends : (verdict : Verdict) → found ≡ verdict → GroupGoes setup budget step a (n + 1) verdict c
  group_ends verdict is =
      record { past = n; before = b; goes = goes; last = subst (λ (v : Verdict). RoundNames setup budget step (n + 1) b c v) is names; rounds_is = refl }

-- ---- behind a group

-- the next group begins, or it doesn't
pub passes : (setup : Setup) (n : ℕ × ℕ) (a b : Stand) (found answer : Bool) → HasCounts setup n → found ≡ answer → Pause (n.0 + n.1) a b found
    → ((w : World) → IsWorldAt setup a w → (found ≡ false) ↔ IsHeldUp setup w.operator) → PassesPause setup a b answer
passes setup n a b found answer has is pause held = record {
  pause = subst (λ (k : ℕ). Pause k a b answer) (sym last) (subst (λ (x : Bool). Pause (n.0 + n.1) a b x) is pause);
  held = λ w at. subst (λ (x : Bool). (x ≡ false) ↔ IsHeldUp setup w.operator) is (held w at);
}
  where
    last : operator_number setup ≡ n.0 + n.1
    last = λ i. has.routers i + has.peerings i

module _ (setup : Setup) (budget : Budget) (step : ℕ) (a b : Stand) (rounds : ℕ)
    (limit : Option RunEnd) (group : GroupGoes setup budget step a rounds (verdict_of limit) b) where
  -- a limit ends the run
  pub limit_answers : (end : RunEnd) → limit ≡ Some end → GroupAnswers setup budget step a rounds (Some end) b
  limit_answers end is = record { limit = limit; marked = b; group = group; then_is = inl (is, λ e. absurd cc, refl) }

  -- the group is over
  pub pass_answers : (d : Stand) (end : Option RunEnd) → limit ≡ None → PassAnswers setup b d end → GroupAnswers setup budget step a rounds end d
  pass_answers d end is passes = record { limit = limit; marked = b; group = group; then_is = inr (is, passes) }

-- ---- groups

module _ (setup : Setup) (a : Stand) (budgets : List Budget) (index : ℕ) (there : index < length budgets)
    (none budget : Budget) (is : budget ≡ get_or budgets index none) (step : ℕ) (number : step ≡ index + 1)
    (b d : Stand) (made all : List ℕ) (rounds : ℕ) (groups : GroupsGo setup a (take index budgets) made b)
    (all_is : all ≡ made ++ rounds ∷ []) (found : Option RunEnd) (answers : GroupAnswers setup budget step b rounds found d) where
  past_count : length (take index budgets) ≡ index
  past_count = length-take-le index budgets (omega (arith, there))

  itself : get_or budgets index budget ≡ budget
  itself = get_or_default budgets index budget none there ∙ sym is

  past_more : take (index + 1) budgets ≡ take index budgets ++ budget ∷ []
  past_more = take_more budgets index budget there ∙ ap (λ (x : Budget). take index budgets ++ x ∷ []) itself

  whole : budgets ≡ take index budgets ++ budget ∷ drop (index + 1) budgets
  whole = sym (take-append-drop index budgets)
      ∙ ap (λ (xs : List Budget). take index budgets ++ xs) (drop_more budgets index budget there ∙ ap (λ (x : Budget). x ∷ drop (index + 1) budgets) itself)

  at_step : (end : Option RunEnd) → found ≡ end → GroupAnswers setup budget (length (take index budgets) + 1) b rounds end d
  at_step end e = subst (λ (n : ℕ). GroupAnswers setup budget n b rounds end d) (number ∙ ap (λ (n : ℕ). n + 1) (sym past_count))
      (subst (λ (o : Option RunEnd). GroupAnswers setup budget step b rounds o d) e answers)

  -- one group more is over, and the next one has begun
  pub groups_more : found ≡ None → GroupsGo setup a (take (index + 1) budgets) all d
  groups_more e = subst (λ (xs : List Budget). GroupsGo setup a xs all d) (sym past_more)
      (subst (λ (ns : List ℕ). GroupsGo setup a (take index budgets ++ budget ∷ []) ns d) (sym all_is) next)
    where
      x : GroupAnswers setup budget (length (take index budgets) + 1) b rounds None d
      x = at_step None e

      next : GroupsGo setup a (take index budgets ++ budget ∷ []) (made ++ rounds ∷ []) d
      next = elim x.then_is [
        | inl limit ↦ absurd (limit.1 refl)
        | inr over ↦ NextGroup (take index budgets) budget made rounds groups
            (subst (λ (o : Option RunEnd). GroupGoes setup budget (length (take index budgets) + 1) b rounds (verdict_of o) x.marked) over.0 x.group) over.1
      ]

  -- the run ends
  pub run_ends : (end : RunEnd) → found ≡ Some end → RunGoes setup a budgets all end d
  run_ends end e = record {
    past = take index budgets;
    rounds = made;
    begun = b;
    groups = groups;
    budget = budget;
    verdict = verdict_of x.limit;
    last = rounds;
    marked = x.marked;
    group = x.group;
    made_is = all_is;
    first = (drop (index + 1) budgets, whole);
    ends = elim x.then_is [ inl limit ↦ inl (ap verdict_of limit.0, limit.2) | inr over ↦ inr (ap verdict_of over.0, over.1.0, over.1.1) ];
  }
    where
      x : GroupAnswers setup budget (length (take index budgets) + 1) b rounds (Some end) d
      x = at_step (Some end) e
