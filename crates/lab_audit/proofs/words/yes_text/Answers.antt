use Rattle.std.proofs.Common.{◌∙◌, ap, ◌∷◌, [], ◌++◌}
use Rattle.std.specs.Prelude.{codes, decimal}
use Rattle.lab_audit.proofs.Pieces.{five}
use Rattle.lab_audit.proofs.words.yes_text.Goals as goal

pub returns : goal.returns
returns c =
    let front = codes "audit yes events " in
    let number = decimal c.args.events in
    c.from_vec.ensures ∙ ap (λ bytes. bytes.items) c.into_bytes.ensures.value ∙ c.in_ok-text.ensures.ok
    ∙ five front number (codes " ") c.end_text-end.result.now (10 ∷ []) ∙ ap (λ word. front ++ number ++ codes " " ++ word ++ 10 ∷ []) c.end_text-end.ensures
