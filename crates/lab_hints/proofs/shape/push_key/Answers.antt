use Rattle.std.proofs.Common.{◌∙◌, ◌++◌, ap, string_bytes}
use Rattle.std.specs.List.{find}
use Rattle.std.specs.Str.{bytes_eq}
use Rattle.std.proofs.lemmas.Result.{IfOk-equal}
use Rattle.toml.specs.View.{table_view}
use Rattle.lab_keys.specs.Keys.{names_of}
use Rattle.lab_hints.specs.Shapes.{found_words, stray_words}
use Rattle.lab_hints.proofs.shape.push_key.Goals as goal

-- the words go by the row that has the key
pub returns-in-Some : goal.returns-in-Some
returns-in-Some c =
    let t = table_view c.args.table.now in
    let key = c.args.key.now in
    let rows = c.as_slice-rows.ensures ∙ c.in_ok-keys.ensures in
    IfOk-equal c.push_row.result _ _ _ c.push_row.ensures
    (ap (λ o. string_bytes c.args.text.now ++ found_words o c.args.at t key) (c.in-Some.ensures ∙ ap (find (λ row. bytes_eq key row.name)) rows))

pub returns : goal.returns
returns c =
    let t = table_view c.args.table.now in
    let key = c.args.key.now in
    let rows = c.as_slice-rows.ensures ∙ c.in_ok-keys.ensures in
    IfOk-equal c.push_stray.result _ _ _ c.push_stray.ensures
    (ap (λ ks. string_bytes c.args.text.now ++ stray_words key (names_of ks)) rows
    ∙ ap (λ o. string_bytes c.args.text.now ++ found_words o c.args.at t key) (c.in-None.ensures ∙ ap (find (λ row. bytes_eq key row.name)) rows))
