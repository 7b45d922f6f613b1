use Rattle.std.proofs.Common.{◌∙◌, Some, ap, arith, subst, sym}
use Rattle.std.specs.Option.{option_flatten}
use Rattle.std.proofs.lemmas.Option.{none-some}
use Rattle.graft_steps.specs.declared.refusal.Refusal.{Refusal}
use Rattle.audit_router.specs.Grafts.{IsRefusedAt}
use Rattle.audit_router.specs.Places.{BeginsAs}
use Rattle.audit_router.specs.declared.place.Place.{Place}
use Rattle.audit_router.proofs.AtSource.{flat_is}
use Rattle.audit_router.proofs.Searching.{none_anywhere, none_more, read_is}
use Rattle.audit_router.proofs.router.AuditedRouter.refusing_place.Goals as goal

pub returns-in-Some-clause-some : goal.returns-in-Some-clause-some
returns-in-Some-clause-some c =
    let r = c.args.self.now in
    let here = read_is r.places.items c.loop-p.p c.index.result.now
    (omega (arith, c.loop-p-test.true, c.loop-p.auto.p-end, c.len-p-end.ensures)) c.index.ensures in
    let some = flat_is c.begins.result c.in-Some.refusal (sym c.in-Some.is ∙ c.flatten.ensures) in
    subst (λ (x : Place). BeginsAs c.args.graft x (Some c.in-Some.refusal)) here ((c.begins.ensures (Some c.in-Some.refusal)).0 some)

pub loop-p-preserved : goal.loop-p-preserved
loop-p-preserved c =
    let r = c.args.self.now in
    let here = read_is r.places.items c.loop-p.p c.index.result.now
    (omega (arith, c.loop-p-test.true, c.loop-p.auto.p-end, c.len-p-end.ensures)) c.index.ensures in
    none_more (λ p. (refusal : Refusal) × IsRefusedAt r c.args.graft p refusal) c.loop-p.p c.loop-p.invariant
    (λ begins.
    let some = (c.begins.ensures (Some begins.0)).1 (subst (λ (x : Place). BeginsAs c.args.graft x (Some begins.0)) (sym here) begins.1) in
    none-some begins.0 (sym c.in_default.is ∙ (c.flatten.ensures ∙ ap (λ o. option_flatten o) some)))

pub returns-clause-none : goal.returns-clause-none
returns-clause-none c =
    let r = c.args.self.now in
    λ p refusal begins. none_anywhere r.places.items (λ n. (cause : Refusal) × IsRefusedAt r c.args.graft n cause) c.loop-p.p
    (omega (arith, c.loop-p-test.false, c.loop-p.auto.p-end, c.len-p-end.ensures)) c.loop-p.invariant
    (λ n vacant begins. let is = begins.1.stored.is in let no : ⊥ = cc in no) p (refusal, begins)
