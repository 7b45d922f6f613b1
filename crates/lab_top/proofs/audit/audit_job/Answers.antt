use Rattle.std.proofs.Common.{ap, subst, List, ℕ}
use Rattle.std.specs.Prelude.{Err}
use Rattle.lab_audit.specs.Told.{TellsOf}
use Rattle.lab_top.proofs.Parts.{whole_audited, long_audited}
use Rattle.lab_top.proofs.audit.audit_job.Goals as goal

pub returns-in_ok-told-in-Ok : goal.returns-in_ok-told-in-Ok
returns-in_ok-told-in-Ok g c =
    let told = c.in_ok-told-in-Ok.told in
    whole_audited _ _ c.in-Ok.text told c.end_audit.result c.in-Ok.ensures.whole c.in-Ok.ensures.end.0 c.in-Ok.ensures.end.1
    (subst (λ (bytes : List ℕ). TellsOf bytes told.text told.end) c.deref.ensures c.in_ok-told-in-Ok.ensures) c.end_audit.ensures

pub returns-in_ok-told-in-Err-TooLong : goal.returns-in_ok-told-in-Err-TooLong
returns-in_ok-told-in-Err-TooLong g c =
    long_audited _ _ c.in_ok-told-in-Err-TooLong.told c.end_audit-in-Err-TooLong.result
    (c.in-Err-TooLong.ensures.too_long (ap Err c.in-Err-TooLong.field-0-is)) c.in_ok-told-in-Err-TooLong.ensures c.end_audit-in-Err-TooLong.ensures
