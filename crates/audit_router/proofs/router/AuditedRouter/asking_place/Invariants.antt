use Rattle.audit_router.specs.Grafts.{AsksNextAt}
use Rattle.audit_router.proofs.Searching.{NoneBelow}
use Rattle.audit_router.proofs.router.AuditedRouter.asking_place.Given as goal

abbrev pub invariant-loop-p : goal.invariant-loop-p
invariant-loop-p l = NoneBelow (λ p. AsksNextAt l.self l.graft p l.q) l.p
