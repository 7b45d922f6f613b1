use Rattle.std.proofs.Common.{ap, ◌∙◌, subst}
use Rattle.tcp_seq.specs.Endpoint.{EmitsAnswer}
use Rattle.bgp_session.specs.Running.{RunningSession}
use Rattle.bgp_session.specs.Inner.{running, value_of}
use Rattle.bgp_session.specs.Steps.{SessionEmitsIfAny}
use Rattle.bgp_session.proofs.session.Session.answer.Goals as goal

pub returns-clause-step : goal.returns-clause-step
returns-clause-step c = subst (λ (r : RunningSession). SessionEmitsIfAny EmitsAnswer r.session c.answer.result (value_of c.answer.new.self))
    (ap running c.deref_mut.ensures.value ∙ c.self.view_is) c.answer.ensures.step
