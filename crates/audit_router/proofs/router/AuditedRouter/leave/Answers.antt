use Rattle.std.proofs.Common.{◌≡◌, refl, sym, ap, ◌∙◌, arith}
use Rattle.std.specs.Prelude.{slice_set}
use Rattle.graft_steps.specs.declared.order.GraftIds.{GraftIds}
use Rattle.audit_router.specs.Places.{place_at}
use Rattle.audit_router.specs.declared.place.Place.TheVariants.{Frozen}
use Rattle.audit_router.proofs.AtSource.{frozen_there, leave_nothing, leaves}
use Rattle.audit_router.proofs.Kept.{keeps_here}
use Rattle.audit_router.proofs.Searching.{read_is}
use Rattle.audit_router.proofs.router.AuditedRouter.leave.Goals as goal

pub returns-in_default : goal.returns-in_default
returns-in_default c = leave_nothing c.args.self.now c.requires c.args.graft c.in_default.ensures.none

pub index_mut-requires : goal.index_mut-requires
index_mut-requires c =
    let there = frozen_there c.args.self.now c.args.graft c.in-Some.p c.in-Some.ensures.some in
    omega (arith, there, c.args.self.now.places.ok.0)

pub unreachable-requires : goal.unreachable-requires
unreachable-requires c =
    let r = c.args.self.now in
    let frozen = c.in-Some.ensures.some in
    let here = read_is r.places.items c.in-Some.p c.index_mut.result.now (frozen_there r c.args.graft c.in-Some.p frozen) c.index_mut.ensures.value in
    c.in_default-replace.not-Frozen frozen.session frozen.ids (c.replace.ensures.value ∙ here ∙ frozen.is)

pub clear_due-requires-clause-there : goal.clear_due-requires-clause-there
clear_due-requires-clause-there c =
    let there = frozen_there c.args.self.now c.args.graft c.in-Some.p c.in-Some.ensures.some in omega (arith, there, c.requires.all)

pub freeze-requires : goal.freeze-requires
freeze-requires c =
    let r = c.args.self.now in
    let here = read_is r.places.items c.in-Some.p c.index_mut.result.now (frozen_there r c.args.graft c.in-Some.p c.in-Some.ensures.some)
    c.index_mut.ensures.value in
    (keeps_here r c.requires c.in-Some.p (Frozen c.in-Frozen.session c.in-Frozen.ids) (sym here ∙ sym c.replace.ensures.value ∙ c.in-Frozen.is)).2

pub returns : goal.returns
returns c =
    let r = c.args.self.now in
    let frozen = c.in-Some.ensures.some in
    let there = frozen_there r c.args.graft c.in-Some.p frozen in
    let here = read_is r.places.items c.in-Some.p c.index_mut.result.now there c.index_mut.ensures.value in
    let is : place_at r.places.items c.in-Some.p ≡ Frozen c.in-Frozen.session c.in-Frozen.ids = sym here ∙ sym c.replace.ensures.value ∙ c.in-Frozen.is in
    let both : Frozen c.in-Frozen.session c.in-Frozen.ids ≡ Frozen frozen.session frozen.ids = sym is ∙ frozen.is in
    let same : c.in-Frozen.ids ≡ frozen.ids = cc in
    leaves r c.requires c.args.graft c.in-Some.p there c.in-Frozen.session c.in-Frozen.ids is
    (ap (λ (ids : GraftIds). ids.graft) same ∙ frozen.graft) _
    (ap (slice_set r.places.items c.in-Some.p) c.replace.ensures.after) (record { routers = refl; room = refl })
    c.clear_due.ensures.changes c.clear_due.ensures.due c.from.result c.leave.result c.from.ensures (c.leave.ensures ∙ c.freeze.ensures)
