use Rattle.std.proofs.Common.{ap, ◌∙◌, subst}
use Rattle.std.specs.Prelude.{◌≤◌, length, IfOk}
use Rattle.bgp_session.specs.Running.{RunningSession}
use Rattle.bgp_session.specs.Inner.{running, value_of}
use Rattle.tcp_seq.specs.Endpoint.{EmitsAgain, EmitsSlice}
use Rattle.bgp_session.specs.Steps.{SessionEmitsIfAny}
use Rattle.bgp_session.proofs.session.Session.turn.Goals as goal

pub returns-clause-step : goal.returns-clause-step
returns-clause-step c = subst (λ (r : RunningSession). IfOk c.turn.result (λ a. SessionEmitsIfAny EmitsAgain r.session a (value_of c.turn.new.self)))
    (ap running c.deref_mut.ensures.value ∙ c.self.view_is) c.turn.ensures.step

pub returns-clause-slice : goal.returns-clause-slice
returns-clause-slice c = subst (λ (r : RunningSession). IfOk c.turn.result (λ a. SessionEmitsIfAny EmitsSlice r.session a (value_of c.turn.new.self)))
    (ap running c.deref_mut.ensures.value ∙ c.self.view_is) c.turn.ensures.slice

pub returns-clause-within : goal.returns-clause-within
returns-clause-within c = subst (λ (r : RunningSession). r.session.end.emitted ≤ length r.session.end.stream)
    (ap running c.deref_mut.ensures.value ∙ c.self.view_is) c.turn.ensures.within
