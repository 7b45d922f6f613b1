use Rattle.std.proofs.Common.{arith, ◌∙◌, Some, ap, inl, inr, refl}
use Rattle.std.specs.Prelude.{slice_set}
use Rattle.std.proofs.lemmas.Bool.{false≢true}
use Rattle.audit_router.specs.declared.place.Errand.TheVariants.{Owing}
use Rattle.audit_router.proofs.AtTarget.{confirm_early, confirm_nobody, confirms, confirms_there}
use Rattle.audit_router.proofs.Searching.{read_is}
use Rattle.audit_router.proofs.router.AuditedRouter.confirm.Goals as goal

pub returns-then-not-is_clean : goal.returns-then-not-is_clean
returns-then-not-is_clean c = confirm_early c.args.self.now c.requires c.args.graft (inl (λ clean. false≢true (c.if-not-is_clean.ensures.1 clean)))

pub returns-then-not-has_told_all : goal.returns-then-not-has_told_all
returns-then-not-has_told_all c = confirm_early c.args.self.now c.requires c.args.graft (inr (λ told. false≢true (c.if-not-has_told_all.ensures.1 told)))

pub returns-in_default : goal.returns-in_default
returns-in_default c = confirm_nobody c.args.self.now c.requires c.args.graft c.in_default.ensures.none

pub index_mut-requires : goal.index_mut-requires
index_mut-requires c =
    let there = confirms_there c.args.self.now c.requires c.args.graft c.in-Some.p c.in-Some.source.0 c.in-Some.ensures.some in
    omega (arith, there, c.args.self.now.places.ok.0)

pub returns : goal.returns
returns c =
    let r = c.args.self.now in
    let may = c.in-Some.ensures.some in
    let there = confirms_there r c.requires c.args.graft c.in-Some.p c.in-Some.source.0 may in
    let here = read_is r.places.items c.in-Some.p c.index_mut.result.now there c.index_mut.ensures.value in
    confirms r c.requires c.args.graft c.in-Some.p there _ refl (record { routers = refl; room = refl }) (c.if-not-is_clean.ensures.0 refl)
    (c.if-not-has_told_all.ensures.0 refl) c.in-Some.source.0 may
    (ap (slice_set r.places.items c.in-Some.p) (c.end_errand.ensures may.owed.session (Some (Owing may.landing)) (here ∙ may.owed.is)))
    c.from.result c.from.ensures _ refl
