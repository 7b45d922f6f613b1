use Rattle.std.proofs.Common.{◌∙◌, arith, sym}
use Rattle.std.proofs.lemmas.Bool.{false≢true}
use Rattle.audit_router.specs.Grafts.{IsFrozenAt}
use Rattle.audit_router.proofs.Searching.{none_anywhere, none_more, read_is}
use Rattle.audit_router.proofs.router.AuditedRouter.leaving_place.Goals as goal

pub returns-then-is_frozen_for-clause-some : goal.returns-then-is_frozen_for-clause-some
returns-then-is_frozen_for-clause-some c =
    let here = read_is c.args.self.now.places.items c.loop-p.p c.index.result.now
    (omega (arith, c.loop-p-test.true, c.loop-p.auto.p-end, c.len-p-end.ensures)) c.index.ensures in
    let frozen = c.is_frozen_for.ensures.0 c.if-is_frozen_for.true in
    record { session = frozen.0; ids = frozen.1; is = sym here ∙ frozen.2; graft = frozen.3 }

pub loop-p-preserved : goal.loop-p-preserved
loop-p-preserved c =
    let here = read_is c.args.self.now.places.items c.loop-p.p c.index.result.now
    (omega (arith, c.loop-p-test.true, c.loop-p.auto.p-end, c.len-p-end.ensures)) c.index.ensures in
    none_more (IsFrozenAt c.args.self.now c.args.graft) c.loop-p.p c.loop-p.invariant
    (λ frozen. false≢true (sym c.if-is_frozen_for.false ∙ c.is_frozen_for.ensures.1 (frozen.session, frozen.ids, here ∙ frozen.is, frozen.graft)))

pub returns-clause-none : goal.returns-clause-none
returns-clause-none c = none_anywhere c.args.self.now.places.items (IsFrozenAt c.args.self.now c.args.graft) c.loop-p.p
    (omega (arith, c.loop-p-test.false, c.loop-p.auto.p-end, c.len-p-end.ensures)) c.loop-p.invariant
    (λ n vacant frozen. let is = frozen.is in let no : ⊥ = cc in no)
