use Rattle.std.proofs.Common.{◌≡◌, ◌∙◌, sym, ap, rules}
use Rattle.std.specs.Prelude.{option_map}
use Rattle.decision_core.specs.Choice.{choice}
use Rattle.decision_groups.specs.Order.{RankedSource}
use Rattle.decision_groups.proofs.Best.{best-chosen, empty_exactly}
use Rattle.decision_groups.proofs.group_set.GroupSet.best.Goals as goal

pub returns-clause-choice : goal.returns-clause-choice
returns-clause-choice c =
    let from : c.map.result ≡ option_map (λ (x : RankedSource). x.0) c.best_champion.result = search rules in
    from
    ∙ (sym (best-chosen c.self.inside.ranks c.self.inside.groups c.best_champion.result c.self.invariant c.best_champion.ensures.numbered
    (sym c.best_champion.ensures.best)) ∙ ap choice c.self.view_is)

pub returns-clause-empty : goal.returns-clause-empty
returns-clause-empty c =
    let from : c.map.result ≡ option_map (λ (x : RankedSource). x.0) c.best_champion.result = search rules in
    empty_exactly _ _ (from ∙ (sym (best-chosen c.self.inside.ranks c.self.inside.groups c.best_champion.result
    c.self.invariant c.best_champion.ensures.numbered (sym c.best_champion.ensures.best)) ∙ ap choice c.self.view_is))
