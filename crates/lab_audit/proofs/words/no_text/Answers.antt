use Rattle.std.proofs.Common.{◌∙◌, ap, ◌∷◌, [], ◌++◌}
use Rattle.std.specs.Prelude.{codes, decimal}
use Rattle.lab_audit.proofs.Pieces.{five}
use Rattle.lab_audit.proofs.words.no_text.Goals as goal

pub returns : goal.returns
returns c =
    let front = codes "audit no event " in
    let number = decimal c.args.event in
    c.from_vec.ensures ∙ ap (λ bytes. bytes.items) c.into_bytes.ensures.value ∙ c.in_ok-text.ensures.ok
    ∙ five front number (codes " reason ") c.reason_text-reason.result.now (10 ∷ [])
    ∙ ap (λ word. front ++ number ++ codes " reason " ++ word ++ 10 ∷ []) c.reason_text-reason.ensures
