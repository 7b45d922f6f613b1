use Rattle.std.proofs.Common.{◌<◌, Err, ap, subst}
use Rattle.audit_router.proofs.sessions.offer.Goals as goal

pub returns-in-Err-StreamFull : goal.returns-in-Err-StreamFull
returns-in-Err-StreamFull c =
    let full = c.in-Err-StreamFull.ensures.only_full c.in-Err-StreamFull.field-0-0 (ap Err c.in-Err-StreamFull.field-0-is) in
    (subst (λ n. 1044480 < n) full.0 full.1, full.2)
