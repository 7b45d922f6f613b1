use Rattle.std.proofs.Common.{◌≡◌, ℕ, Option, [], length, refl, sym, subst}
use Rattle.std.specs.Prelude.{IsNone, IfNone}
use Rattle.ring_net.proofs.TakesEach.{same_edges_self, same_edges_then}
use Rattle.tcp_seq.specs.Endpoint.{EmitsNext}
use Rattle.tcp_seq.specs.declared.segment.Segment.{Segment}
use Rattle.graft_actors.specs.Emissions.{reach_of}
use Rattle.remote_end.specs.Remotes.{EmitsOf}
use Rattle.graft_actors.specs.Notes.{WroteOne}
use Rattle.far_side.proofs.EmitSteps.{freshly_first, freshly_next, freshly_last, less_left}
use Rattle.far_side.proofs.emit.send_fresh.Goals as goal
use Rattle.graft_model.specs.declared.event.FarEvent.TheVariants.{Send}
use Rattle.graft_model.specs.Codes.{far_code}

pub loop-segment-init : goal.loop-segment-init
loop-segment-init g c = (freshly_first c.args.far.now c.args.post.now c.requires, same_edges_self c.args.post.now)

pub loop-segment-preserved : goal.loop-segment-preserved
loop-segment-preserved g c = (
  freshly_next c.args.far.now c.loop-segment.far c.send.new.far c.args.post.now c.loop-segment.post
      c.send.new.post c.next.new.self c.in-Some.segment c.loop-segment.invariant.0 c.next.ensures.sound
      (subst (λ (o : Option Segment). EmitsOf EmitsNext c.loop-segment.far.remote o c.next.new.self.end) c.in-Some.is c.in_ok-segment.ensures.emits)
      c.in_ok-segment.ensures.same c.in_ok-send.ensures.sent.1
      (subst (λ (n : ℕ). WroteOne c.loop-segment.post (far_code (Send n (length c.in-Some.segment.bytes))) [] c.send.new.post)
      c.emitted-from.ensures c.in_ok-send.ensures.sent.0),
  same_edges_then _ _ _ c.loop-segment.invariant.1 c.send.ensures.edges,
)

pub loop-segment-smaller : goal.loop-segment-smaller
loop-segment-smaller g c = less_left c.loop-segment.far c.send.new.far c.next.new.self c.in-Some.segment
    (subst (λ (o : Option Segment). EmitsOf EmitsNext c.loop-segment.far.remote o c.next.new.self.end) c.in-Some.is c.in_ok-segment.ensures.emits)
    c.in_ok-send.ensures.sent.1

pub returns-in_default-clause-edges : goal.returns-in_default-clause-edges
returns-in_default-clause-edges g c = c.loop-segment.invariant.1

pub returns-in_default-clause-sent : goal.returns-in_default-clause-sent
returns-in_default-clause-sent g c =
    freshly_last c.args.far.now c.loop-segment.far _ c.args.post.now c.loop-segment.post c.next.new.self c.loop-segment.invariant.0
    (c.in_ok-segment.ensures.none.0 (subst (λ (o : Option Segment). IsNone o) (sym c.in_default.is) refl))
    (subst (λ (o : Option Segment). IfNone o (c.loop-segment.far.remote.end.emitted ≡ reach_of c.loop-segment.far.remote.end))
    c.in_default.is c.in_ok-segment.ensures.all)
    (subst (λ (o : Option Segment). EmitsOf EmitsNext c.loop-segment.far.remote o c.next.new.self.end) c.in_default.is c.in_ok-segment.ensures.emits)
    c.in_ok-segment.ensures.same refl

pub returns-in_err-segment-clause-edges : goal.returns-in_err-segment-clause-edges
returns-in_err-segment-clause-edges g c = c.loop-segment.invariant.1

pub returns-in_err-send-clause-edges : goal.returns-in_err-send-clause-edges
returns-in_err-send-clause-edges g c = same_edges_then _ _ _ c.loop-segment.invariant.1 c.send.ensures.edges
