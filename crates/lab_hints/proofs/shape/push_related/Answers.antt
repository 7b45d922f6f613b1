use Rattle.std.proofs.Common.{◌∙◌, ◌++◌, ap, codes, string_bytes}
use Rattle.std.specs.Prelude.{unwrap_or}
use Rattle.std.proofs.lemmas.Result.{IfOk-equal}
use Rattle.lab_hints.specs.Wanted.{wanted_words}
use Rattle.lab_hints.specs.Shapes.{relation_words}
use Rattle.lab_hints.proofs.shape.push_related.Goals as goal

-- the words go by the relation
pub returns-in-Some : goal.returns-in-Some
returns-in-Some c =
    let row = c.args.row.now in
    IfOk-equal c.push_words.result _ _ _ c.push_words.ensures
    (ap (λ o. string_bytes c.args.text.now ++ unwrap_or o (row.name ++ codes " is " ++ wanted_words c.args.at row))
    (c.in-Some.ensures ∙ ap (relation_words c.args.at) c.name.ensures))

pub returns-in-None : goal.returns-in-None
returns-in-None c =
    let row = c.args.row.now in
    IfOk-equal c.push_key_with.result _ _ _ c.push_key_with.ensures
    (ap (λ o. string_bytes c.args.text.now ++ unwrap_or o (row.name ++ codes " is " ++ wanted_words c.args.at row))
    (c.in-None.ensures ∙ ap (relation_words c.args.at) c.name.ensures))
