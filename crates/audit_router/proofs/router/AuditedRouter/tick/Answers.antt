use Rattle.std.proofs.Common.{◌<◌, length, refl, ap, subst, arith}
use Rattle.bgp_session.specs.Running.{RunningSession}
use Rattle.bgp_session.specs.declared.answers.ReadStep.{ReadStep}
use Rattle.session_value.specs.Sessions.{SessionValue}
use Rattle.graft_model.specs.declared.event.RouterEvent.TheVariants.{Tick}
use Rattle.audit_router.specs.Followed.{IsFollowed}
use Rattle.audit_router.specs.declared.place.Place.TheVariants.{Live}
use Rattle.audit_router.proofs.Following.{follows_tick}
use Rattle.audit_router.proofs.Kept as kept
use Rattle.audit_router.proofs.LiveSessions.{none_beyond, none_there, tick_early, tick_none, ticks}
use Rattle.audit_router.proofs.Searching.{seen_at}
use Rattle.audit_router.proofs.router.AuditedRouter.tick.Goals as goal

pub returns-then-p-len : goal.returns-then-p-len
returns-then-p-len c = tick_none c.args.self.now c.requires c.args.p c.args.round (none_beyond c.args.self.now c.args.p (omega arith))

pub returns-in_default : goal.returns-in_default
returns-in_default c =
    let r = c.args.self.now in
    let now = c.index_mut.result.now in
    let at = seen_at r.places.items c.args.p now now (omega arith) c.index_mut.ensures.value refl in
    kept.refused_back r c.requires (Tick c.args.p c.args.round) _ c.args.p now at refl refl (record { routers = refl; room = refl })
    (tick_none r c.requires c.args.p c.args.round (none_there r c.args.p now at c.in_default.not-Live))

pub returns-then-not-may_pass : goal.returns-then-not-may_pass
returns-then-not-may_pass c =
    let r = c.args.self.now in
    let s = c.in-Live.session in
    let o = c.in-Live.errand in
    let at = seen_at r.places.items c.args.p c.index_mut.result.now (Live s o) (omega arith) c.index_mut.ensures.value c.in-Live.is in
    kept.refused_back r c.requires (Tick c.args.p c.args.round) _ c.args.p (Live s o) at refl refl (record { routers = refl; room = refl })
    (tick_early r c.requires c.args.p s o at c.args.round c.if-not-may_pass.ensures)

pub follow-requires-clause-own : goal.follow-requires-clause-own
follow-requires-clause-own c =
    let r = c.args.self.now in
    let s = c.in-Live.session in
    let o = c.in-Live.errand in
    let t : RunningSession = c.tick.new.self in
    let at = seen_at r.places.items c.args.p c.index_mut.result.now (Live s o) (omega arith) c.index_mut.ensures.value c.in-Live.is in
    kept.of_config r.tables.known.setup c.args.p s.session t.session (ap (λ (v : SessionValue). v.config) c.in_ok-tick.ensures.passes.effect)
    (kept.keeps_here r c.requires c.args.p (Live s o) at).0

pub returns : goal.returns
returns c =
    let r = c.args.self.now in
    let s = c.in-Live.session in
    let o = c.in-Live.errand in
    let t : RunningSession = c.tick.new.self in
    let passes = c.in_ok-tick.ensures in
    let there : c.args.p < length r.places.items = omega arith in
    let at = seen_at r.places.items c.args.p c.index_mut.result.now (Live s o) there c.index_mut.ensures.value c.in-Live.is in
    ticks r c.requires c.args.p s o at there _ t refl (record { routers = refl; room = refl })
    (follows_tick c.in_ok-tick.field-0 c.args.p s.session t.session c.args.round passes.passes passes.tells r.tables c.follow.new.tables
    (subst (λ (step : ReadStep). IsFollowed step c.args.p t.session r.tables c.follow.new.tables) c.followed-step.ensures c.in_ok-follow.ensures))
    c.in_ok-tick.field-0 c.args.round passes
