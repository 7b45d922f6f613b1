use Rattle.std.proofs.Common.{◌<◌, length, Option, refl, ap, subst, arith}
use Rattle.std.specs.Prelude.{slice_set}
use Rattle.bgp_session.specs.Running.{RunningSession}
use Rattle.bgp_session.specs.Steps.{ReadsFrameIfAny}
use Rattle.bgp_session.specs.declared.answers.ReadStep.{ReadStep}
use Rattle.session_value.specs.Sessions.{SessionValue}
use Rattle.graft_model.specs.declared.event.RouterEvent.TheVariants.{Got}
use Rattle.audit_router.specs.declared.place.Place.TheVariants.{Live}
use Rattle.audit_router.proofs.Following.{follows_read}
use Rattle.audit_router.proofs.Kept as kept
use Rattle.audit_router.proofs.LiveSessions.{gets, got_none, got_nothing, none_beyond, none_there}
use Rattle.audit_router.proofs.Searching.{seen_at}
use Rattle.audit_router.proofs.router.AuditedRouter.get.Goals as goal

pub returns-then-p-len : goal.returns-then-p-len
returns-then-p-len c = got_none c.args.self.now c.requires c.args.p (none_beyond c.args.self.now c.args.p (omega arith))

pub returns-in_default : goal.returns-in_default
returns-in_default c =
    let r = c.args.self.now in
    let now = c.index_mut.result.now in
    let at = seen_at r.places.items c.args.p now now (omega arith) c.index_mut.ensures.value refl in
    kept.refused_back r c.requires (Got c.args.p) _ c.args.p now at refl refl (record { routers = refl; room = refl })
    (got_none r c.requires c.args.p (none_there r c.args.p now at c.in_default.not-Live))

pub returns-in_default-2 : goal.returns-in_default-2
returns-in_default-2 c =
    let r = c.args.self.now in
    let s = c.in-Live.session in
    let o = c.in-Live.errand in
    let t : RunningSession = c.read.new.self in
    let at = seen_at r.places.items c.args.p c.index_mut.result.now (Live s o) (omega arith) c.index_mut.ensures.value c.in-Live.is in
    let cant = subst (λ (step : Option ReadStep). ReadsFrameIfAny step s t) c.in_default-2.is c.in_ok-step.ensures in
    kept.refused_back r c.requires (Got c.args.p) _ c.args.p (Live s o) at
    (ap (λ (v : RunningSession). slice_set r.places.items c.args.p (Live v o)) cant.1) refl (record { routers = refl; room = refl })
    (got_nothing r c.requires c.args.p s o at cant.0)

pub follow-requires-clause-own : goal.follow-requires-clause-own
follow-requires-clause-own c =
    let r = c.args.self.now in
    let s = c.in-Live.session in
    let o = c.in-Live.errand in
    let t : RunningSession = c.read.new.self in
    let at = seen_at r.places.items c.args.p c.index_mut.result.now (Live s o) (omega arith) c.index_mut.ensures.value c.in-Live.is in
    let reads = subst (λ (step : Option ReadStep). ReadsFrameIfAny step s t) c.in-Some.is c.in_ok-step.ensures in
    kept.of_config r.tables.known.setup c.args.p s.session t.session (ap (λ (v : SessionValue). v.config) reads.gets.effect)
    (kept.keeps_here r c.requires c.args.p (Live s o) at).0

pub returns : goal.returns
returns c =
    let r = c.args.self.now in
    let s = c.in-Live.session in
    let o = c.in-Live.errand in
    let t : RunningSession = c.read.new.self in
    let there : c.args.p < length r.places.items = omega arith in
    let at = seen_at r.places.items c.args.p c.index_mut.result.now (Live s o) there c.index_mut.ensures.value c.in-Live.is in
    let reads = subst (λ (step : Option ReadStep). ReadsFrameIfAny step s t) c.in-Some.is c.in_ok-step.ensures in
    gets r c.requires c.args.p s o at there _ t refl (record { routers = refl; room = refl })
    (follows_read c.in-Some.step c.args.p s.session t.session reads.bytes reads.gets reads.tells r.tables c.follow.new.tables c.in_ok-follow.ensures)
    c.in-Some.step reads
