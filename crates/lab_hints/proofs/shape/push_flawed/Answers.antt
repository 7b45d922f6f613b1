use Rattle.std.proofs.Common.{◌≡◌, ◌∙◌, ◌++◌, true, false, ap, string_bytes}
use Rattle.std.specs.Prelude.{Some}
use Rattle.std.proofs.lemmas.Result.{IfOk-equal}
use Rattle.toml.specs.View.{table_view}
use Rattle.lab_keys.specs.Values.{has_member}
use Rattle.lab_hints.specs.Shapes.{flawed_words}
use Rattle.lab_hints.proofs.shape.push_flawed.Goals as goal

pub returns-then-has : goal.returns-then-has
returns-then-has c = λ flaw.
    let t = table_view c.args.table.now in
    let row = c.args.row.now in
    let there : true ≡ has_member row.name t = c.if-has.ensures ∙ ap (λ n. has_member n t) c.name.ensures in
    IfOk-equal c.push_key_with.result _ _ _ c.push_key_with.ensures
    (ap (λ b. string_bytes c.args.text.now ++ flawed_words (Some flaw) b c.args.at t row) there)

pub returns : goal.returns
returns c = λ flaw.
    let t = table_view c.args.table.now in
    let row = c.args.row.now in
    let missing : false ≡ has_member row.name t = c.if-has.ensures ∙ ap (λ n. has_member n t) c.name.ensures in
    IfOk-equal c.push_missing.result _ _ _ c.push_missing.ensures
    (ap (λ b. string_bytes c.args.text.now ++ flawed_words (Some flaw) b c.args.at t row) missing)
