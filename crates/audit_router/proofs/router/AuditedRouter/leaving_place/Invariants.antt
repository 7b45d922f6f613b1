use Rattle.audit_router.specs.Grafts.{IsFrozenAt}
use Rattle.audit_router.proofs.Searching.{NoneBelow}
use Rattle.audit_router.proofs.router.AuditedRouter.leaving_place.Given as goal

abbrev pub invariant-loop-p : goal.invariant-loop-p
invariant-loop-p l = NoneBelow (IsFrozenAt l.self l.graft) l.p
