use Rattle.audit_router.specs.Grafts.{MayFreezeAt}
use Rattle.audit_router.proofs.Searching.{NoneBelow}
use Rattle.audit_router.proofs.router.AuditedRouter.freezing_place.Given as goal

abbrev pub invariant-loop-p : goal.invariant-loop-p
invariant-loop-p l = NoneBelow (MayFreezeAt l.self l.graft) l.p
