use Rattle.std.proofs.Common.{ap, ◌∙◌, subst}
use Rattle.std.specs.Prelude.{◌≡◌, ◌↔◌, ◌+◌, length, min, IfOk, IfNone, IsNone}
use Rattle.bgp_session.specs.Running.{RunningSession}
use Rattle.bgp_session.specs.Inner.{running, value_of}
use Rattle.tcp_seq.specs.Endpoint.{EmitsNext, EmitsSlice, next_length}
use Rattle.bgp_session.specs.Steps.{SessionEmitsIfAny}
use Rattle.bgp_session.proofs.session.Session.next_segment.Goals as goal

pub returns-clause-step : goal.returns-clause-step
returns-clause-step c =
    subst (λ (r : RunningSession). IfOk c.next_segment.result (λ a. SessionEmitsIfAny EmitsNext r.session a (value_of c.next_segment.new.self)))
    (ap running c.deref_mut.ensures.value ∙ c.self.view_is) c.next_segment.ensures.step

pub returns-clause-slice : goal.returns-clause-slice
returns-clause-slice c =
    subst (λ (r : RunningSession). IfOk c.next_segment.result (λ a. SessionEmitsIfAny EmitsSlice r.session a (value_of c.next_segment.new.self)))
    (ap running c.deref_mut.ensures.value ∙ c.self.view_is) c.next_segment.ensures.slice

pub returns-clause-none : goal.returns-clause-none
returns-clause-none c = subst (λ (r : RunningSession). IfOk c.next_segment.result (λ a. IsNone a ↔ (next_length r.session.end ≡ 0)))
    (ap running c.deref_mut.ensures.value ∙ c.self.view_is) c.next_segment.ensures.none

pub returns-clause-all : goal.returns-clause-all
returns-clause-all c = subst (λ (r : RunningSession).
    IfOk c.next_segment.result (λ a. IfNone a (r.session.end.emitted ≡ min (length r.session.end.stream) (r.session.end.acked + 15360))))
    (ap running c.deref_mut.ensures.value ∙ c.self.view_is) c.next_segment.ensures.all
