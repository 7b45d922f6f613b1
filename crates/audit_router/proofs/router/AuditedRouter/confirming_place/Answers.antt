use Rattle.std.proofs.Common.{ℕ, arith, subst, sym}
use Rattle.audit_router.specs.Grafts.{MayConfirmAt}
use Rattle.audit_router.specs.Places.{MayConfirm}
use Rattle.audit_router.specs.declared.place.Place.{Place}
use Rattle.audit_router.proofs.Searching.{none_anywhere, none_more, read_is}
use Rattle.audit_router.proofs.router.AuditedRouter.confirming_place.Goals as goal

pub loop-p-preserved : goal.loop-p-preserved
loop-p-preserved c =
    let r = c.args.self.now in
    let here = read_is r.places.items c.loop-p.p c.index.result.now
    (omega (arith, c.loop-p-test.true, c.loop-p.auto.p-end, c.len-p-end.ensures)) c.index.ensures in
    none_more (λ p. (source : ℕ) × MayConfirmAt r c.args.graft p source) c.loop-p.p c.loop-p.invariant
    (λ may. c.in_default.ensures.none may.0 (subst (λ (x : Place). MayConfirm c.args.graft x r.routers may.0) (sym here) may.1))

pub returns-clause-none : goal.returns-clause-none
returns-clause-none c =
    let r = c.args.self.now in
    λ p source may. none_anywhere r.places.items (λ n. (from : ℕ) × MayConfirmAt r c.args.graft n from) c.loop-p.p
    (omega (arith, c.loop-p-test.false, c.loop-p.auto.p-end, c.len-p-end.ensures)) c.loop-p.invariant
    (λ n vacant may. let is = may.1.owed.is in let no : ⊥ = cc in no) p (source, may)
