use Rattle.std.proofs.Common.{◌≡◌, subst}
use Rattle.std.specs.Prelude.{Err}
use Rattle.lab_input.specs.Labs.{input_of, ReaderAnswers}
use Rattle.lab_import.specs.Inputs.{input_of_import}
use Rattle.lab_import.proofs.Readings.{read_tells, not_read}
use Rattle.lab_import.proofs.text.is_read.Goals as goal

pub returns-in-Ok : goal.returns-in-Ok
returns-in-Ok c =
    read_tells (input_of c.args.text.now) c.in-Ok.lab (input_of_import c.args.imported.now) c.in-Ok.ensures c.same_input.result c.same_input.ensures

pub returns-in-Err-Bad : goal.returns-in-Err-Bad
returns-in-Err-Bad c =
    let answer = input_of c.args.text.now in
    let is : answer ≡ Err c.in-Err-Bad.field-0-0 = subst (λ stop. ReaderAnswers answer (Err stop)) c.in-Err-Bad.field-0-is c.in-Err-Bad.ensures in
    not_read answer c.in-Err-Bad.field-0-0 (input_of_import c.args.imported.now) is
