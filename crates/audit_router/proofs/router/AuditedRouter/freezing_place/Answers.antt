use Rattle.std.proofs.Common.{◌∙◌, Some, None, ap, arith, subst}
use Rattle.audit_router.specs.Places.{BeginsAs}
use Rattle.audit_router.specs.declared.place.Place.{Place}
use Rattle.audit_router.proofs.Searching.{read_is}
use Rattle.audit_router.proofs.router.AuditedRouter.freezing_place.Goals as goal

pub returns-in-Some-None-clause-some : goal.returns-in-Some-None-clause-some
returns-in-Some-None-clause-some c =
    let r = c.args.self.now in
    let here = read_is r.places.items c.loop-p.p c.index.result.now
    (omega (arith, c.loop-p-test.true, c.loop-p.auto.p-end, c.len-p-end.ensures)) c.index.ensures in
    subst (λ (x : Place). BeginsAs c.args.graft x None) here ((c.begins.ensures None).0 (c.in-Some-None.is ∙ ap Some c.in-Some-None.field-0-is))
