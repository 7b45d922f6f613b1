use Rattle.std.proofs.Common.{◌++◌, ap, string_bytes}
use Rattle.std.proofs.lemmas.Result.{IfOk-equal}
use Rattle.toml.specs.View.{table_view}
use Rattle.lab_keys.specs.Values.{has_member}
use Rattle.lab_hints.specs.Shapes.{flawed_words}
use Rattle.lab_hints.proofs.shape.push_row.Goals as goal

-- the words go by the flaw
pub returns-in-None : goal.returns-in-None
returns-in-None c =
    let t = table_view c.args.table.now in
    let row = c.args.row.now in
    IfOk-equal c.push_related.result _ _ _ c.push_related.ensures
    (ap (λ o. string_bytes c.args.text.now ++ flawed_words o (has_member row.name t) c.args.at t row) c.in-None.ensures)

pub returns-in-Some : goal.returns-in-Some
returns-in-Some c =
    let t = table_view c.args.table.now in
    let row = c.args.row.now in
    IfOk-equal c.push_flawed.result _ _ _ (c.push_flawed.ensures c.in-Some.field-0)
    (ap (λ o. string_bytes c.args.text.now ++ flawed_words o (has_member row.name t) c.args.at t row) c.in-Some.ensures)
