-- How many entries there are in all.
use Rattle.std.proofs.Common.{◌≡◌, ℕ, ◌<◌, ◌-◌, ◌^◌, min, List, length, get_or, sum, refl, sym, ap, ◌∙◌, arith}
use Rattle.std.proofs.lemmas.List.{same_lists, get_or_default}
use Rattle.ring_net.specs.Phases.{View, Marked, CountsAll}
use Rattle.graft_model.specs.Setups.{Setup}
use Rattle.graft_model.specs.Parts.{World}
use Rattle.world_nodes.specs.Looks.{IsWorldAt}
use Rattle.world_nodes.specs.Ways.{Stand, Round}
use Rattle.node_configs.specs.declared.budget.Budget.{Budget}
use Rattle.lab_run.specs.declared.end.Verdict.{Verdict}
use Rattle.lab_run.specs.Ends.{MarkCounts, CountsTo, Names}
use Rattle.lab_run.specs.Stories.{RoundNames}

-- the count of all entries stops at the end of 64 bits
pub same_total : {A I : Type 0} (v : View A I) (total count : ℕ) → CountsTo v total → CountsAll v count → count ≡ min total (2 ^ 64 - 1)
same_total v total count all counted = counted.total ∙ ap (λ (n : ℕ). min n (2 ^ 64 - 1)) (ap (λ (xs : List ℕ). sum xs) same ∙ sym all.total_is) where
  each : (k d : ℕ) → k < length counted.each → get_or counted.each k d ≡ get_or all.each k d
  each k d below =
      get_or_default counted.each k d 0 below ∙ counted.lengths k (omega (arith, below, counted.size))
      ∙ sym (all.lengths k (omega (arith, below, counted.size)))
      ∙ get_or_default all.each k 0 d (omega (arith, below, counted.size, all.size))

  same : counted.each ≡ all.each
  same = same_lists counted.each all.each (counted.size ∙ sym all.size) each

-- a mark counts them too
pub mark_total : {A I : Type 0} (v : View A I) (old new : List (List ℕ)) (marked : Marked v old new) → CountsTo v (sum marked.mark)
mark_total v old new marked = record { each = marked.mark; size = marked.size; lengths = marked.lengths; total_is = refl }

-- what a round's mark names, where its entries are counted by the mark
pub round_names : (setup : Setup) (budget : Budget) (step rounds : ℕ) (b c : Stand) (verdict : Verdict) → Round b c
    → ((w : World) (d : MarkCounts) → IsWorldAt setup c w → d.step ≡ step → d.rounds ≡ rounds → CountsTo c.view d.events → Names setup w budget d verdict)
    → RoundNames setup budget step rounds b c verdict
round_names setup budget step rounds b c verdict round names = record {
  round = round;
  names = λ w at. names w (record { events = sum round.marked.mark; step = step; rounds = rounds }) at refl refl
      (mark_total c.view b.marks c.marks round.marked);
}
