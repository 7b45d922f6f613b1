use Rattle.std.proofs.Common.{subst}
use Rattle.std.specs.Prelude.{Err}
use Rattle.lab_input.specs.Labs.{input_of, ReaderAnswers}
use Rattle.lab_top.proofs.Parts.{refused_stops}
use Rattle.lab_top.proofs.jobs.input_in.Goals as goal

pub returns-in-Err-Bad : goal.returns-in-Err-Bad
returns-in-Err-Bad c =
    let is = subst (λ e. ReaderAnswers (input_of c.args.bytes.now) (Err e)) c.in-Err-Bad.field-0-is c.in-Err-Bad.ensures in
    refused_stops c.args.bytes.now c.in-Err-Bad.bad c.refusal.result c.stop_with.result is c.refusal.ensures c.stop_with.ensures
