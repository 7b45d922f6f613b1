use Rattle.std.proofs.Common.{Bool, ◌∷◌, [], ◌++◌, List, take, sym, ap, ◌∙◌, ℕ, arith}
use Rattle.std.specs.Prelude.{Some}
use Rattle.lab_tables.specs.declared.input.PeeringInput.{PeeringInput}
use Rattle.sure_inputs.specs.Sure.{is_plain}
use Rattle.lab_answers.specs.PlainPeerings.{plain_in}
use Rattle.lab_answers.proofs.Tested.{map_numbered_more}
use Rattle.lab_answers.proofs.sureness.plain_peerings.Goals as goal

-- one peering more
pub loop-i-preserved : goal.loop-i-preserved
loop-i-preserved c =
    let f : ℕ × PeeringInput → Bool = λ p. is_plain c.args.steps.now p.0 (Some p.1) in
    c.in_ok-push.ensures.ok
    ∙ ap (λ (ts : List Bool). ts ++ c.in_ok-answer.answer ∷ []) c.loop-i.invariant
    ∙ ap (λ (t : Bool). plain_in c.args.steps.now (take c.loop-i.i c.args.peerings.now) ++ t ∷ []) c.in_ok-answer.ensures
    ∙ sym (map_numbered_more f c.args.peerings.now c.loop-i.i c.index-peerings-i.result (omega (arith, c.loop-i-test.true)) c.index-peerings-i.is)
