use Rattle.std.proofs.Common.{sym, refl}
use Rattle.lab_answers.proofs.Notes.{there, absent, between}
use Rattle.lab_answers.proofs.meds.Meds.note.Goals as goal

pub returns-in-Some : goal.returns-in-Some
returns-in-Some c = λ before is.
    there before (record { prefix = c.args.prefix; neighbour = c.args.neighbour; med = c.args.med }) c.args.self.now is _ (sym c.in-Some.ensures.value) _ refl

pub returns : goal.returns
returns c = λ before is.
    absent before (record { prefix = c.args.prefix; neighbour = c.args.neighbour; med = c.args.med }) c.args.self.now is (sym c.in_default.ensures.value) _ refl
    (λ prefix neighbour. c.in_ok-insert.ensures.updates.0 (between prefix neighbour))
