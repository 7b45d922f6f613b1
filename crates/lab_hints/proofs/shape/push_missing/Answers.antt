use Rattle.std.proofs.Common.{◌∙◌, ◌++◌, ap, codes, string_bytes}
use Rattle.std.proofs.lemmas.Result.{IfOk-equal}
use Rattle.toml.specs.View.{table_view}
use Rattle.lab_keys.specs.Keys.{names_of, stray_in}
use Rattle.lab_tables.specs.Rows.{rows_at}
use Rattle.lab_hints.specs.Wanted.{wanted_words}
use Rattle.lab_hints.specs.Shapes.{instead_words}
use Rattle.lab_hints.proofs.Lists.{joined}
use Rattle.lab_hints.proofs.shape.push_missing.Goals as goal

pub returns : goal.returns
returns c =
    let t = table_view c.args.table.now in
    let row = c.args.row.now in
    let start = string_bytes c.args.text.now in
    let front = row.name ++ codes " is missing: " ++ wanted_words c.args.at row in
    IfOk-equal c.push_instead.result _ _ _ c.push_instead.ensures
    (joined start _ front _ c.in_ok-push_key_with.ensures
    ∙ ap (λ o. start ++ (front ++ instead_words o c.name.result.now)) (c.stray_in.ensures ∙ ap (λ ks. stray_in (names_of ks) t) c.requires)
    ∙ ap (λ n. start ++ (front ++ instead_words (stray_in (names_of (rows_at c.args.at t)) t) n)) c.name.ensures)
