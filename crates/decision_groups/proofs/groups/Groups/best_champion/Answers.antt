use Rattle.std.proofs.Common.{◌≡◌, ℕ, ◌+◌, ◌<◌, List, ◌∷◌, [], ◌++◌, length, get_or, take, Option, sym, ap, ◌∙◌}
use Rattle.std.specs.List.{filter_map}
use Rattle.std.specs.Map.{values_of}
use Rattle.std.proofs.lemmas.List.{map_more}
use Rattle.decision_core.specs.Search.{best_by}
use Rattle.decision_groups.specs.Order.{RankedSource}
use Rattle.decision_groups.specs.Groups.{NumberedGroup, champion_of, comes_first, better_of}
use Rattle.decision_groups.proofs.Best.{best_more}
use Rattle.decision_groups.proofs.groups.Groups.best_champion.Goals as goal

abbrev best_of : List NumberedGroup → Option RankedSource
best_of groups = best_by comes_first (filter_map champion_of (values_of groups))

-- one more group, which is read of the list xs
one_more : (groups xs : List NumberedGroup) (i : ℕ) (g : NumberedGroup) (best : Option RankedSource) → xs ≡ groups → i < length xs
    → g ≡ get_or xs i g → best ≡ best_of (take i groups) → better_of best (champion_of g.1) ≡ best_of (take (i + 1) groups)
one_more groups xs i g best is within read so_far =
    ap (λ o. better_of o (champion_of g.1)) (so_far ∙ ap (λ ys. best_of (take i ys)) (sym is))
    ∙ (sym (best_more (values_of (take i xs)) g.1)
    ∙ (ap (λ (e : NumberedGroup). best_by comes_first (filter_map champion_of (values_of (take i xs) ++ e.1 ∷ []))) read
    ∙ (ap (λ gs. best_by comes_first (filter_map champion_of gs)) (sym (map_more (λ (e : NumberedGroup). e.1) xs i g within))
    ∙ ap (λ ys. best_of (take (i + 1) ys)) is)))

pub loop-group-preserved : goal.loop-group-preserved
loop-group-preserved c =
    c.better-best.ensures
    ∙ (ap (λ o. better_of c.loop-group.best o) c.champion.ensures
    ∙ one_more _ _ _ c.loop-group-item.result _
    (c.deref-group-items.ensures.value ∙ c.self.view_is) c.loop-group-test.true c.loop-group-item.is c.loop-group.invariant)
