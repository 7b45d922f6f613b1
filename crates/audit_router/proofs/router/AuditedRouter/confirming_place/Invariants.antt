use Rattle.std.proofs.Common.{ℕ}
use Rattle.audit_router.specs.Grafts.{MayConfirmAt}
use Rattle.audit_router.proofs.Searching.{NoneBelow}
use Rattle.audit_router.proofs.router.AuditedRouter.confirming_place.Given as goal

abbrev pub invariant-loop-p : goal.invariant-loop-p
invariant-loop-p l = NoneBelow (λ p. (source : ℕ) × MayConfirmAt l.self l.graft p source) l.p
