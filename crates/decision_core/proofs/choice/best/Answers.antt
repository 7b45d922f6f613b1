use Rattle.std.proofs.Common.{◌≡◌, ℕ, ◌∙◌, sym, rules}
use Rattle.std.specs.Prelude.{option_map}
use Rattle.bgp_types.specs.declared.rank.Rank.{Rank}
use Rattle.decision_core.proofs.NineRules.{nearest_more, no_rank, chosen, passed_over, empty_exactly, choice-no_leader, choice-all}
use Rattle.decision_core.proofs.choice.best.Goals as goal
use Rattle.decision_core.proofs.choice.best.Goals.{then-is_next, else-is_next}

pub loop-index-preserved : goal.loop-index-preserved
loop-index-preserved c = elim c.if-is_next.branch [
  | then-is_next w ↦ nearest_more c.in_ok-leader.leader c.args.list.now c.loop-index.index no_rank _ _ c.loop-index-test.true c.loop-index.invariant
      (chosen _ _ _ _ (sym c.is_next.ensures ∙ w.if-is_next.true) w.nearest-is)
  | else-is_next w ↦ nearest_more c.in_ok-leader.leader c.args.list.now c.loop-index.index no_rank _ _ c.loop-index-test.true c.loop-index.invariant
      (passed_over _ _ _ _ (sym c.is_next.ensures ∙ w.if-is_next.false) w.nearest-is)
]

pub returns-clause-choice : goal.returns-clause-choice
returns-clause-choice c =
    let index : c.map.result ≡ option_map (λ (x : ℕ × Rank). x.0) c.loop-index.nearest = search rules in
    index ∙ choice-all _ c.in_ok-leader.leader _ _ (sym c.in_ok-leader.ensures) c.loop-index-test.false c.loop-index.invariant

pub returns-clause-empty : goal.returns-clause-empty
returns-clause-empty c =
    let index : c.map.result ≡ option_map (λ (x : ℕ × Rank). x.0) c.loop-index.nearest = search rules in
    empty_exactly _ _ (index ∙ choice-all _ c.in_ok-leader.leader _ _ (sym c.in_ok-leader.ensures) c.loop-index-test.false c.loop-index.invariant)

pub returns-in_err-leader-clause-choice : goal.returns-in_err-leader-clause-choice
returns-in_err-leader-clause-choice c = choice-no_leader _ _ c.from_residual.ensures (sym c.in_err-leader.ensures)

pub returns-in_err-leader-clause-empty : goal.returns-in_err-leader-clause-empty
returns-in_err-leader-clause-empty c = empty_exactly _ _ (choice-no_leader _ _ c.from_residual.ensures (sym c.in_err-leader.ensures))
