use Rattle.std.proofs.Common.{◌∙◌, ◌++◌, List, ℕ, ap, map, string_bytes}
use Rattle.std.specs.Borrow.{Bor}
use Rattle.std.proofs.lemmas.Result.{IfOk-equal}
use Rattle.lab_hints.specs.Shapes.{stray_words}
use Rattle.lab_hints.proofs.stray.push_stray.Goals as goal

pub returns : goal.returns
returns c =
    IfOk-equal c.push_unlisted.result _ _ _ c.push_unlisted.ensures
    (ap (λ names. string_bytes c.args.text.now ++ stray_words c.args.key.now names)
    (ap (map (λ (name : Bor (List ℕ)). name.now)) c.deref.ensures ∙ c.in_ok-names.ensures))
