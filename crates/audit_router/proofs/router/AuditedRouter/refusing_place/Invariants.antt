use Rattle.graft_steps.specs.declared.refusal.Refusal.{Refusal}
use Rattle.audit_router.specs.Grafts.{IsRefusedAt}
use Rattle.audit_router.proofs.Searching.{NoneBelow}
use Rattle.audit_router.proofs.router.AuditedRouter.refusing_place.Given as goal

-- there is no reason at the first so many
abbrev pub invariant-loop-p : goal.invariant-loop-p
invariant-loop-p l = NoneBelow (λ p. (refusal : Refusal) × IsRefusedAt l.self l.graft p refusal) l.p
