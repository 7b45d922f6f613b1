use Rattle.std.proofs.Common.{◌∙◌, ◌++◌, List, ℕ, sym, ap, arith, string_bytes}
use Rattle.std.specs.List.{flat_map}
use Rattle.std.proofs.lemmas.List.{take_all}
use Rattle.std.proofs.lemmas.List.Folds.{flat_map-map}
use Rattle.lab_hints.specs.Wanted.{spaced}
use Rattle.lab_hints.proofs.Lists.{text_more}
use Rattle.lab_hints.proofs.wanted.push_listed.Goals as goal

-- one word more
pub loop-word-preserved : goal.loop-word-preserved
loop-word-preserved c =
    text_more (λ word. spaced word.now) c.args.words.now c.loop-word.word-index _ _ _ _ (omega (arith, c.loop-word-test.true)) c.loop-word.invariant
    c.in_ok-push_spaced.ensures

pub returns : goal.returns
returns c =
    let words = c.args.words.now in
    c.loop-word.invariant
    ∙ ap (λ ws. string_bytes c.args.text.now ++ flat_map (λ word. spaced word.now) ws) (take_all c.loop-word.word-index words (omega arith))
    ∙ ap (λ (t : List ℕ). string_bytes c.args.text.now ++ t) (sym (flat_map-map spaced (λ word. word.now) words))
