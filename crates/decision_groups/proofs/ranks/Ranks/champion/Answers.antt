use Rattle.std.proofs.Common.{◌≡◌, ℕ, ◌+◌, ◌<◌, Bool, true, false, List, ◌∷◌, [], length, get_or, take, Option, Some, None, refl, sym, ap, ◌∙◌}
use Rattle.std.proofs.lemmas.Grind.{fold-append}
use Rattle.std.proofs.lemmas.List.{take_more}
use Rattle.decision_core.specs.Search.{pick}
use Rattle.decision_groups.specs.Order.{RankedSource}
use Rattle.decision_groups.specs.Groups.{beats_in_group, beats_champion, champion_of}
use Rattle.decision_groups.proofs.ranks.Ranks.champion.Goals as goal
use Rattle.decision_groups.proofs.ranks.Ranks.champion.Goals.{then-beats_champion, else-beats_champion}

abbrev rule : RankedSource → RankedSource → Bool
rule c d = beats_in_group c.1 d.1

picked : (o : Option RankedSource) (c : RankedSource) → beats_champion o c.1 ≡ true → Some c ≡ pick rule o c
picked None c h = refl
picked (Some d) c h = rw h refl

passed : (o : Option RankedSource) (c : RankedSource) → beats_champion o c.1 ≡ false → o ≡ pick rule o c
passed None c h = cc
passed (Some d) c h = rw h refl

-- one more rank, which is read of the list xs
one_more : (cs xs : List RankedSource) (i : ℕ) (d : RankedSource) (champion : Option RankedSource) → xs ≡ cs → i < length xs
    → champion ≡ champion_of (take i cs) → pick rule champion (get_or xs i d) ≡ champion_of (take (i + 1) cs)
one_more cs xs i d champion is within so_far =
    ap (λ o. pick rule o (get_or xs i d)) so_far
    ∙ (ap (λ ys. pick rule (champion_of (take i ys)) (get_or xs i d)) (sym is)
    ∙ (sym (fold-append (pick rule) None (take i xs) (get_or xs i d ∷ []))
    ∙ (ap champion_of (sym (take_more xs i d within))
    ∙ ap (λ ys. champion_of (take (i + 1) ys)) is)))

pub loop-from-preserved : goal.loop-from-preserved
loop-from-preserved c =
    let is = c.deref-from-items.ensures.value ∙ c.self.view_is in
    elim c.if-beats_champion.branch [
      | then-beats_champion w ↦ w.champion-is
          ∙ (picked _ _ (sym c.beats_champion.ensures ∙ w.if-beats_champion.true) ∙ one_more _ _ _ _ _ is c.loop-from-test.true c.loop-from.invariant)
      | else-beats_champion w ↦ w.champion-is
          ∙ (passed _ _ (sym c.beats_champion.ensures ∙ w.if-beats_champion.false) ∙ one_more _ _ _ _ _ is c.loop-from-test.true c.loop-from.invariant)
    ]
