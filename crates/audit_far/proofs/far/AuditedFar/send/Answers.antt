use Rattle.std.proofs.Common.{Option, refl, subst}
use Rattle.std.specs.Prelude.{IfNone}
use Rattle.tcp_seq.specs.Endpoint.{Endpoint, PlacedSegment}
use Rattle.tcp_seq.specs.declared.segment.Segment.{Segment}
use Rattle.tcp_end.specs.Emitting.{EmitsPart}
use Rattle.remote_end.specs.Remotes.{EmitsOf}
use Rattle.audit_far.proofs.Rows.{send_made, send_refused}
use Rattle.audit_far.proofs.far.AuditedFar.send.Goals as goal

pub returns-in_default : goal.returns-in_default
returns-in_default c = send_refused c.args.self.now _ c.args.from c.args.len c.emit_at.new.self c.requires
    (subst (λ (o : Option Segment). EmitsOf (EmitsPart c.args.from c.args.len) c.args.self.now.remote o c.emit_at.new.self.end)
    c.in_default.is c.in_ok-segment.ensures.emits)
    c.in_ok-segment.ensures.same
    (subst (λ (o : Option Segment). IfNone o ((segment : PlacedSegment) (after : Endpoint)
    → ¬ EmitsPart c.args.from c.args.len c.args.self.now.remote.end segment after)) c.in_default.is c.in_ok-segment.ensures.refused)
    refl

pub returns : goal.returns
returns c =
    let emits = subst (λ (o : Option Segment). EmitsOf (EmitsPart c.args.from c.args.len) c.args.self.now.remote o c.emit_at.new.self.end)
    c.in-Some.is c.in_ok-segment.ensures.emits in
    send_made c.args.self.now _ c.requires c.args.from c.args.len c.emit_at.new.self c.in-Some.segment emits.0 emits.1
    c.in_ok-segment.ensures.same c.put.new.bag c.in_ok-put.ensures refl
