use Rattle.std.proofs.Common.{◌∙◌, ap, sym, List, ℕ}
use Rattle.std.proofs.lemmas.Option.{slice_get_within}
use Rattle.lab_setup.specs.Setups.{peering_setup}
use Rattle.even_inputs.specs.Announced.{established}
use Rattle.lab_answers.proofs.Adding.{on_ok_same}
use Rattle.lab_answers.proofs.Meant.{announced_over}
use Rattle.lab_answers.proofs.evenness.note_peering.Goals as goal

pub said_over-requires-clause-there : goal.said_over-requires-clause-there
said_over-requires-clause-there c = slice_get_within c.args.input.now.peerings c.args.number.0 c.args.peering.now c.requires.there

pub returns : goal.returns
returns c =
    on_ok_same c.note_said.result _ _ _ _
    (announced_over c.args.input.now c.args.number.0 c.args.peering.now c.deref-2.result.now c.in_ok-expected.expected c.in_ok-imports.imports
    (c.deref-2.ensures ∙ c.in_ok-said.ensures c.args.peering.now c.requires.there)
    (c.in_ok-expected.ensures c.args.input.now c.args.number.0
    ∙ ap (λ (said : List ℕ). established (peering_setup c.args.input.now (c.args.number.0, c.args.peering.now)) said) (c.deref.ensures ∙ sym c.deref-2.ensures))
    c.in_ok-imports.ensures)
    c.note_said.ensures
