use Rattle.std.proofs.Common.{◌∙◌, sym, arith}
use Rattle.lab_keys.proofs.Splits.{closed, open_behind, never_closed}
use Rattle.lab_keys.proofs.reported.bracketed.Goals as goal

pub returns-then-is_empty : goal.returns-then-is_empty
returns-then-is_empty c =
    let parts = c.in-Some.ensures.byte (omega arith) (λ w o found. found) in
    closed c.args.text.now c.in-Some.detail.now c.in-Some.back.now parts.0 parts.1 parts.2 (sym c.is_empty.ensures ∙ c.if-is_empty.true)

pub returns-else-is_empty : goal.returns-else-is_empty
returns-else-is_empty c =
    let parts = c.in-Some.ensures.byte (omega arith) (λ w o found. found) in
    open_behind c.args.text.now c.in-Some.back.now parts.1 (sym c.is_empty.ensures ∙ c.if-is_empty.false)

pub returns-in-None : goal.returns-in-None
returns-in-None c = never_closed c.args.text.now (c.in-None.ensures.byte (omega arith) (λ w o found. found))
