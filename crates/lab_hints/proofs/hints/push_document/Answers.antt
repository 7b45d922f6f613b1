use Rattle.std.proofs.Common.{◌∙◌, ◌++◌, ap, string_bytes}
use Rattle.std.proofs.lemmas.Result.{IfOk-equal}
use Rattle.toml.specs.View.{table_view}
use Rattle.lab_hints.specs.Later.{later_words}
use Rattle.lab_hints.specs.Hints.{flaw_words}
use Rattle.lab_hints.proofs.hints.push_document.Goals as goal

-- the words go by the first flaw
pub returns-in-Some : goal.returns-in-Some
returns-in-Some c =
    IfOk-equal c.push_shape.result _ _ _ c.push_shape.ensures
    (ap (λ o. string_bytes c.args.text.now ++ flaw_words o (table_view c.args.doc.now) c.args.bad.now) c.in-Some.ensures)

pub returns-in_ok-lab-in-None : goal.returns-in_ok-lab-in-None
returns-in_ok-lab-in-None c =
    IfOk-equal c.push_later.result _ _ _ c.push_later.ensures
    (ap (λ lab. string_bytes c.args.text.now ++ later_words lab c.args.bad.now) c.in_ok-lab-in-None.ensures
    ∙ ap (λ o. string_bytes c.args.text.now ++ flaw_words o (table_view c.args.doc.now) c.args.bad.now) c.in-None.ensures)
