use Rattle.std.proofs.Common.{◌≡◌, refl, sym, ap, subst}
use Rattle.std.specs.Prelude.{Err}
use Rattle.lab_input.specs.Labs.{input_of, ReaderAnswers}
use Rattle.lab_audit.specs.Told.{IsRefusal, TellsOf, unread, unlined, audited}
use Rattle.lab_audit.proofs.audited.audit_text.Goals as goal

pub returns-in-Err-Bad : goal.returns-in-Err-Bad
returns-in-Err-Bad c =
    let input = c.in-Some.input.now in
    let is : input_of input ≡ Err c.in-Err-Bad.bad =
    subst (λ e. ReaderAnswers (input_of input) (Err e)) c.in-Err-Bad.field-0-is c.in-Err-Bad.ensures in
    let refusal = subst (λ bad. IsRefusal input bad c.in_ok-refusal-in-Err-Bad.field-0) c.in-Err-Bad.bad-is c.in_ok-refusal-in-Err-Bad.ensures in
    subst (λ told. TellsOf c.args.text.now told.text told.end) (sym c.refused-in-Err-Bad.ensures)
    (unread input c.in-Some.rest.now c.in-Err-Bad.bad c.in-Some.ensures is refusal refl)

pub returns-in-Err-Line : goal.returns-in-Err-Line
returns-in-Err-Line c =
    let fault = c.in-Err-Line.ensures.fault c.in-Err-Line.line (ap Err c.in-Err-Line.field-0-is) in
    subst (λ told. TellsOf c.args.text.now told.text told.end) (sym c.refused-in-Err-Line.ensures)
    (unlined c.in-Some.input.now c.in-Some.rest.now c.in-Ok.lab c.in-Err-Line.line c.in-Some.ensures c.in-Ok.ensures fault
    c.in_ok-line_text-in-Err-Line.ensures refl)

pub returns : goal.returns
returns c =
    audited c.in-Some.input.now c.in-Some.rest.now c.in-Ok.lab c.in-Ok-read_entries.journal c.in_ok-answer.answer c.in-Some.ensures c.in-Ok.ensures
    c.in-Ok-read_entries.ensures.entries c.in_ok-answer.ensures c.in_ok-text.ensures c.end_of.ensures
