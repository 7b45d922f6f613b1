use Rattle.std.proofs.Common.{◌≡◌, List, sym, subst, ◌∙◌}
use Rattle.std.specs.Prelude.{All, Some, IfOk, slice_get}
use Rattle.std.proofs.lemmas.Result.{IfOk-weaker}
use Rattle.bgp_types.specs.declared.message.Message.TheVariants.{UpdateMsg}
use Rattle.bgp_types.specs.Writable.{IsWritable}
use Rattle.lab_tables.specs.declared.input.PeeringInput.{PeeringInput}
use Rattle.lab_tables.specs.declared.input.Step.{Step}
use Rattle.lab_input.specs.Said.{step_update}
use Rattle.lab_setup.specs.Setups.{setup_of, peering_setup}
use Rattle.lab_setup.proofs.Accepted.{writable}
use Rattle.lab_setup.proofs.Lists.{read_at, some_is}
use Rattle.one_answer.specs.Settled.{said_in_all}
use Rattle.lab_answers.proofs.Whole.{said_is}
use Rattle.lab_answers.proofs.said.said_over.Goals as goal

pub with_steps-requires : goal.with_steps-requires
with_steps-requires c =
    subst (λ (steps : List Step). All (λ step. IsWritable (UpdateMsg (step_update step)) c.is_wide-wide.result) steps) (sym c.deref-2.ensures)
    (writable c.args.input.now c.requires.accepted c.is_wide-wide.result)

pub returns : goal.returns
returns c = λ p e.
    let x : PeeringInput = c.index-deref-from.result in
    let there : slice_get c.args.input.now.peerings c.args.peering.0 ≡ Some x
    = read_at c.args.input.now.peerings c.deref.result.now c.from.result c.args.peering.0
    x c.deref.ensures c.from.ensures c.requires.there c.index-deref-from.is in
    subst (λ (y : PeeringInput). IfOk c.with_steps.result
    (λ said. said ≡ said_in_all (setup_of c.args.input.now) c.args.peering.0 (peering_setup c.args.input.now (c.args.peering.0, y))))
    (some_is x p (sym there ∙ e))
    (IfOk-weaker c.with_steps.result _ _
    (λ said is. is ∙ said_is c.args.input.now c.args.peering.0 x there c.in_ok-opening.opening
    c.is_wide-wide.result c.deref-2.result.now c.in_ok-opening.ensures c.is_wide-wide.ensures c.deref-2.ensures)
    c.with_steps.ensures)
