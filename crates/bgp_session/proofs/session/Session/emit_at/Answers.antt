use Rattle.std.proofs.Common.{ap, ◌∙◌, subst}
use Rattle.std.specs.Prelude.{IfOk, IfNone}
use Rattle.tcp_seq.specs.Endpoint.{Endpoint, PlacedSegment}
use Rattle.tcp_end.specs.Emitting.{EmitsPart}
use Rattle.bgp_session.specs.Running.{RunningSession}
use Rattle.bgp_session.specs.Inner.{running, value_of}
use Rattle.bgp_session.specs.Steps.{SessionEmitsIfAny}
use Rattle.bgp_session.proofs.session.Session.emit_at.Goals as goal

pub returns-clause-emits : goal.returns-clause-emits
returns-clause-emits c = subst (λ (r : RunningSession).
    IfOk c.emit_at.result (λ a. SessionEmitsIfAny (EmitsPart c.args.from c.args.len) r.session a (value_of c.emit_at.new.self)))
    (ap running c.deref_mut.ensures.value ∙ c.self.view_is) c.emit_at.ensures.emits

pub returns-clause-refused : goal.returns-clause-refused
returns-clause-refused c = subst (λ (r : RunningSession). IfOk c.emit_at.result
    (λ a. IfNone a ((segment : PlacedSegment) (after : Endpoint) → ¬ EmitsPart c.args.from c.args.len r.session.end segment after)))
    (ap running c.deref_mut.ensures.value ∙ c.self.view_is) c.emit_at.ensures.refused
