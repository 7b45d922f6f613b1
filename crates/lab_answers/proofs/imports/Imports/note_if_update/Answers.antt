use Rattle.std.proofs.Common.{◌∙◌, ap, sym, [], Option}
use Rattle.std.specs.List.{cons_option}
use Rattle.bgp_types.specs.declared.message.Update.{Update}
use Rattle.lab_answers.specs.Imports.{meds_of_updates}
use Rattle.lab_answers.proofs.Adding.{on_ok_same}
use Rattle.lab_answers.proofs.Framing.{one_update}
use Rattle.lab_answers.proofs.imports.Imports.note_if_update.Goals as goal

pub returns-in-Some : goal.returns-in-Some
returns-in-Some c =
    on_ok_same c.note_update.result _ _ _ _
    (one_update c.args.self.now c.in-Some.update ∙ ap (λ (o : Option Update). meds_of_updates c.args.self.now (cons_option o [])) (sym c.in-Some.is))
    c.note_update.ensures
