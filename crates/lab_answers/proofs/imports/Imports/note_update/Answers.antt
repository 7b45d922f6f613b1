use Rattle.lab_answers.proofs.Adding.{on_ok_same}
use Rattle.lab_answers.proofs.Announcing.{announced_meds}
use Rattle.lab_answers.proofs.imports.Imports.note_update.Goals as goal

pub returns-in_ok-announced-in-Some : goal.returns-in_ok-announced-in-Some
returns-in_ok-announced-in-Some c =
    on_ok_same c.note_prefixes.result _ _ _ _
    (announced_meds c.args.self.now c.args.update.now c.in-Some.attrs _ _ c.in-Some.is c.in_ok-announced-in-Some.ensures c.deref.ensures)
    c.note_prefixes.ensures
