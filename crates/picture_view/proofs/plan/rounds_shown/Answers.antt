use Rattle.std.proofs.Common.{List, ℕ, ◌∷◌, [], ◌++◌, ap, sym, ◌∙◌, filter}
use Rattle.picture_view.specs.Plans.{is_shown}
use Rattle.picture_view.proofs.Ranges.{filtered_more}
use Rattle.picture_view.proofs.plan.rounds_shown.Goals as goal

-- one round more
pub loop-round-preserved : goal.loop-round-preserved
loop-round-preserved c =
    let test = is_shown c.args.points.now c.args.starts.now c.last_round-last.result in
    c.in_ok-push_shown.ensures ∙ ap (λ (l : List ℕ). l ++ filter test (c.loop-round.round ∷ [])) c.loop-round.invariant
    ∙ sym (filtered_more test c.loop-round.round)
