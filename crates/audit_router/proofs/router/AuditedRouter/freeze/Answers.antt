use Rattle.std.proofs.Common.{arith, ◌∙◌, None, ap, refl}
use Rattle.std.specs.Prelude.{slice_set}
use Rattle.audit_router.proofs.AtSource.{begins_there, freeze_nothing, freezes}
use Rattle.audit_router.proofs.Searching.{read_is}
use Rattle.audit_router.proofs.router.AuditedRouter.freeze.Goals as goal

pub returns-in_default : goal.returns-in_default
returns-in_default c = freeze_nothing c.args.self.now c.requires c.args.graft c.in_default.ensures.none

pub index_mut-requires : goal.index_mut-requires
index_mut-requires c =
    let there = begins_there c.args.self.now c.args.graft c.in-Some.p None c.in-Some.ensures.some in
    omega (arith, there, c.args.self.now.places.ok.0)

pub returns : goal.returns
returns c =
    let r = c.args.self.now in
    let begins = c.in-Some.ensures.some in
    let there = begins_there r c.args.graft c.in-Some.p None begins in
    let here = read_is r.places.items c.in-Some.p c.index_mut.result.now there c.index_mut.ensures.value in
    freezes r c.requires c.args.graft c.in-Some.p there _ refl (record { routers = refl; room = refl }) begins
    (ap (slice_set r.places.items c.in-Some.p) (c.freeze.ensures begins.session begins.ids (here ∙ begins.stored.is)))
