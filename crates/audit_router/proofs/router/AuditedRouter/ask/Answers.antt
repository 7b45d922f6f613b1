use Rattle.std.proofs.Common.{arith, ◌∙◌, ap, inl, inr, refl}
use Rattle.std.specs.Prelude.{slice_set}
use Rattle.std.proofs.lemmas.Bool.{false≢true}
use Rattle.audit_router.proofs.AtTarget.{ask_early, ask_nobody, asks, asks_there}
use Rattle.audit_router.proofs.Searching.{read_is}
use Rattle.audit_router.proofs.router.AuditedRouter.ask.Goals as goal

pub returns-then-not-is_clean : goal.returns-then-not-is_clean
returns-then-not-is_clean c = ask_early c.args.self.now c.requires c.args.graft c.args.q
    (inl (λ clean. false≢true (c.if-not-is_clean.ensures.1 clean)))

pub returns-then-not-has_told : goal.returns-then-not-has_told
returns-then-not-has_told c = ask_early c.args.self.now c.requires c.args.graft c.args.q
    (inr (λ told. false≢true (c.if-not-has_told.ensures.1 told)))

pub returns-in_default : goal.returns-in_default
returns-in_default c = ask_nobody c.args.self.now c.requires c.args.graft c.args.q c.in_default.ensures.none

pub index_mut-requires : goal.index_mut-requires
index_mut-requires c =
    let there = asks_there c.args.self.now c.requires c.args.graft c.in-Some.p c.args.q c.in-Some.ensures.some in
    omega (arith, there, c.args.self.now.places.ok.0)

pub returns : goal.returns
returns c =
    let r = c.args.self.now in
    let next = c.in-Some.ensures.some in
    let there = asks_there r c.requires c.args.graft c.in-Some.p c.args.q next in
    let here = read_is r.places.items c.in-Some.p c.index_mut.result.now there c.index_mut.ensures.value in
    asks r c.requires c.args.graft c.in-Some.p there _ refl (record { routers = refl; room = refl }) (c.if-not-is_clean.ensures.0 refl)
    c.args.q (c.if-not-has_told.ensures.0 refl) next
    (ap (slice_set r.places.items c.in-Some.p) (c.ask.ensures next.owed.session next.landing (here ∙ next.owed.is))) _ refl
