use Rattle.std.proofs.Common.{ℕ, List, ◌++◌, ap, sym, ◌∙◌, string_bytes}
use Rattle.std.specs.List.{flat_map}
use Rattle.std.proofs.lemmas.Iterator.{YieldsList-from_chars}
use Rattle.std.proofs.lemmas.Iterator.Consumers.{YieldsList-end}
use Rattle.std.proofs.lemmas.List.{flat_map_more, map-id}
use Rattle.picture_view.specs.Elements.{escaped_char, escaped}
use Rattle.picture_view.proofs.elements.push_escaped.Goals as goal

-- one character more
pub loop-character-preserved : goal.loop-character-preserved
loop-character-preserved c =
    c.in_ok-push_escaped_char.ensures ∙ ap (λ (l : List ℕ). l ++ escaped_char c.in-Some.character) c.loop-character.invariant
    ∙ flat_map_more escaped_char _ c.loop-character.yielded c.in-Some.character

-- all characters were there
pub returns : goal.returns
unfolding escaped
returns c =
    let from = YieldsList-from_chars c.args.words.now c.utf8.words cc in
    let all = YieldsList-end from c.loop-character.yielded _ c.loop-character.yielded_by _ _ c.in-None.is c.next.ensures.steps in
    c.loop-character.invariant ∙ ap (λ (l : List ℕ). string_bytes c.args.text.now ++ flat_map escaped_char l) (sym (map-id c.loop-character.yielded) ∙ all.0)
