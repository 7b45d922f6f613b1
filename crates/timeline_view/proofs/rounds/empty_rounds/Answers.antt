use Rattle.std.proofs.Common.{◌≡◌, ◌++◌, ◌∷◌, [], List, ap, ◌∙◌}
use Rattle.timeline_view.specs.declared.event.Happening.{Happening}
use Rattle.timeline_view.proofs.ByRound.{no_rounds, one_empty_more}
use Rattle.timeline_view.proofs.rounds.empty_rounds.Goals as goal

pub loop-round-init : goal.loop-round-init
loop-round-init c = no_rounds _ c.new-rounds.ensures.items

pub loop-round-preserved : goal.loop-round-preserved
loop-round-preserved c =
    let empty : c.push.new.self.items ≡ c.loop-round.rounds.items ++ [] ∷ []
    = c.in_ok-push.ensures.items ∙ ap (λ (here : List Happening). c.loop-round.rounds.items ++ here ∷ []) c.new.ensures in
    one_empty_more _ _ _ c.loop-round.invariant empty
