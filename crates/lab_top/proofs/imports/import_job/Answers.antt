use Rattle.std.proofs.Common.{subst, ap, sym}
use Rattle.std.specs.Prelude.{Err}
use Rattle.lab_import.specs.Captures.{IsImported}
use Rattle.lab_top.proofs.Parts.{imported_ends, fault_ends, long_imported}
use Rattle.lab_top.proofs.imports.import_job.Goals as goal

pub returns-in-Err-TooLong : goal.returns-in-Err-TooLong
returns-in-Err-TooLong g c =
    long_imported c.args.home _ _ c.end_refused.result (c.in-Err-TooLong.ensures.too_long (ap Err c.in-Err-TooLong.field-0-is)) c.end_refused.ensures

pub returns-in-Ok-import_capture : goal.returns-in-Ok-import_capture
returns-in-Ok-import_capture g c =
    let read = c.in-Ok.ensures in
    let told = c.deref in
    let written = subst (λ text. IsImported c.args.home c.in-Ok.file text) (sym told.ensures) c.in-Ok-import_capture.ensures.imported in
    imported_ends c.args.home _ _ c.in-Ok.file told.result.now _ _ read.whole read.end.0 read.end.1 written c.end_with.ensures.lab c.end_with.ensures.writes

pub returns-in-Err-Fault : goal.returns-in-Err-Fault
returns-in-Err-Fault g c =
    let read = c.in-Ok.ensures in
    let fault = c.in-Err-Fault.fault in
    let is = c.in-Err-Fault.ensures.fault fault (ap Err c.in-Err-Fault.field-0-is) in
    fault_ends c.args.home _ _ c.in-Ok.file fault c.end_refused-in-Err-Fault.result read.whole read.end.0 read.end.1 is c.end_refused-in-Err-Fault.ensures
