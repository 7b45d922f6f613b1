use Rattle.std.proofs.Common.{ℕ, ap, subst, sym}
use Rattle.std.proofs.lemmas.Option.{none-some}
use Rattle.graft_steps.specs.declared.order.GraftIds.{GraftIds}
use Rattle.audit_router.specs.Places.{MayConfirm}
use Rattle.audit_router.proofs.Landings.{confirms_as, confirms_not}
use Rattle.audit_router.proofs.place.Place.confirms.Goals as goal

pub returns-in_err-landed-clause-none : goal.returns-in_err-landed-clause-none
returns-in_err-landed-clause-none c = rw c.from_residual.ensures
    (λ source may. none-some may.landing ((c.in_err-landed.ensures may.landing).1 may.owed))

pub returns-in-Some-clause-none : goal.returns-in-Some-clause-none
returns-in-Some-clause-none c = confirms_not c.args.graft c.args.self.now c.args.routers c.in_ok-landed.landed.now c.in_ok-landed.ensures c.next.result
    c.next.ensures.some c.next.ensures.none c.in-Some.field-0 c.in-Some.is

pub returns-in-None-clause-some : goal.returns-in-None-clause-some
returns-in-None-clause-some c =
    subst (λ (n : ℕ). MayConfirm c.args.graft c.args.self.now c.args.routers n) (sym (ap (λ (ids : GraftIds). ids.source.0) c.ids.ensures))
    (confirms_as c.args.graft c.args.self.now c.args.routers c.in_ok-landed.landed.now c.in_ok-landed.ensures c.next.result
    c.next.ensures.some c.next.ensures.none c.in-None.is)
