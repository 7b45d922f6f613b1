use Rattle.std.proofs.Common.{◌≡◌, ◌<◌, length, Option, refl, ap, subst, arith}
use Rattle.std.specs.Prelude.{IfNone, slice_set}
use Rattle.tcp_seq.specs.Endpoint.{Endpoint, PlacedSegment}
use Rattle.tcp_seq.specs.declared.segment.Segment.{Segment}
use Rattle.tcp_end.specs.Emitting.{EmitsPart}
use Rattle.bgp_session.specs.Running.{RunningSession}
use Rattle.bgp_session.specs.Steps.{SessionEmitsIfAny}
use Rattle.graft_model.specs.declared.event.RouterEvent.TheVariants.{Emit}
use Rattle.audit_router.specs.declared.place.Place.TheVariants.{Live}
use Rattle.audit_router.proofs.Kept as kept
use Rattle.audit_router.proofs.LiveSessions.{emit_made, emit_none, emit_nothing, none_beyond, none_there}
use Rattle.audit_router.proofs.Searching.{seen_at}
use Rattle.audit_router.proofs.router.AuditedRouter.emit.Goals as goal

pub returns-then-p-len : goal.returns-then-p-len
returns-then-p-len c =
    emit_nothing c.args.self.now c.requires c.args.p c.args.from c.args.len (none_beyond c.args.self.now c.args.p (omega arith))

pub returns-in_default : goal.returns-in_default
returns-in_default c =
    let r = c.args.self.now in
    let now = c.index_mut.result.now in
    let at = seen_at r.places.items c.args.p now now (omega arith) c.index_mut.ensures.value refl in
    kept.refused_back r c.requires (Emit c.args.p c.args.from c.args.len) _ c.args.p now at refl refl (record { routers = refl; room = refl })
    (emit_nothing r c.requires c.args.p c.args.from c.args.len (none_there r c.args.p now at c.in_default.not-Live))

pub returns-in_default-2 : goal.returns-in_default-2
returns-in_default-2 c =
    let r = c.args.self.now in
    let s = c.in-Live.session in
    let o = c.in-Live.errand in
    let t : RunningSession = c.emit_at.new.self in
    let at = seen_at r.places.items c.args.p c.index_mut.result.now (Live s o) (omega arith) c.index_mut.ensures.value c.in-Live.is in
    let still = subst (λ (answer : Option Segment). SessionEmitsIfAny (EmitsPart c.args.from c.args.len) s.session answer t.session) c.in_default-2.is
    c.in_ok-segment.ensures.emits in
    let never = subst (λ (answer : Option Segment). IfNone answer ((segment : PlacedSegment) (after : Endpoint)
    → ¬ EmitsPart c.args.from c.args.len s.session.end segment after)) c.in_default-2.is c.in_ok-segment.ensures.refused in
    let same : t ≡ s = λ i. record { session = still i; acked_at_turn = c.in_ok-segment.ensures.same_turn i } in
    kept.refused_back r c.requires (Emit c.args.p c.args.from c.args.len) _ c.args.p (Live s o) at
    (ap (λ (v : RunningSession). slice_set r.places.items c.args.p (Live v o)) same) refl (record { routers = refl; room = refl })
    (emit_none r c.requires c.args.p c.args.from c.args.len s o at never)

pub returns : goal.returns
returns c =
    let r = c.args.self.now in
    let s = c.in-Live.session in
    let o = c.in-Live.errand in
    let t : RunningSession = c.emit_at.new.self in
    let there : c.args.p < length r.places.items = omega arith in
    let at = seen_at r.places.items c.args.p c.index_mut.result.now (Live s o) there c.index_mut.ensures.value c.in-Live.is in
    let emits = subst (λ (answer : Option Segment). SessionEmitsIfAny (EmitsPart c.args.from c.args.len) s.session answer t.session) c.in-Some.is
    c.in_ok-segment.ensures.emits in
    emit_made r c.requires c.args.p c.args.from c.args.len s o at there _ t refl refl (record { routers = refl; room = refl }) c.in-Some.segment emits
    (omega (arith, there, c.requires.all)) c.far_side-to.result c.far_side-to.ensures
