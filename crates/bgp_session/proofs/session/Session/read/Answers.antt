use Rattle.std.proofs.Common.{ap, ◌∙◌, subst}
use Rattle.std.specs.Prelude.{IfOk}
use Rattle.bgp_session.specs.Running.{RunningSession}
use Rattle.bgp_session.specs.Inner.{running}
use Rattle.bgp_session.specs.Steps.{ReadsFrameIfAny}
use Rattle.bgp_session.proofs.session.Session.read.Goals as goal

pub returns : goal.returns
returns c = subst (λ (r : RunningSession). IfOk c.read.result (λ step. ReadsFrameIfAny step r (running c.read.new.self)))
    (ap running c.deref_mut.ensures.value ∙ c.self.view_is) c.read.ensures.step
