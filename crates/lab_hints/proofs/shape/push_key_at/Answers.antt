use Rattle.std.proofs.Common.{◌++◌, ap, string_bytes}
use Rattle.std.specs.Prelude.{unwrap_or}
use Rattle.std.proofs.lemmas.Result.{IfOk-equal}
use Rattle.toml.specs.Data.{no_members}
use Rattle.lab_hints.specs.Shapes.{key_words}
use Rattle.lab_hints.proofs.shape.push_key_at.Goals as goal

pub returns-in-Some : goal.returns-in-Some
returns-in-Some c =
    IfOk-equal c.push_key.result _ _ _ c.push_key.ensures
    (ap (λ o. string_bytes c.args.text.now ++ key_words c.args.at (unwrap_or o no_members) c.args.key.now) c.in-Some.ensures)

pub returns-in-None : goal.returns-in-None
returns-in-None c =
    IfOk-equal c.push_key_of_none.result _ _ _ c.push_key_of_none.ensures
    (ap (λ o. string_bytes c.args.text.now ++ key_words c.args.at (unwrap_or o no_members) c.args.key.now) c.in-None.ensures)
