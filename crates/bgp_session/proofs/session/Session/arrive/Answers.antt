use Rattle.std.proofs.Common.{ap, ◌∙◌, subst}
use Rattle.std.specs.Prelude.{IfOk}
use Rattle.bgp_session.specs.Running.{RunningSession}
use Rattle.bgp_session.specs.Inner.{running}
use Rattle.bgp_session.specs.Steps.{SegmentArrives}
use Rattle.bgp_session.proofs.session.Session.arrive.Goals as goal

pub returns : goal.returns
returns c = subst (λ (r : RunningSession). IfOk c.arrive.result (λ a. SegmentArrives a r c.args.segment.now (running c.arrive.new.self)))
    (ap running c.deref_mut.ensures.value ∙ c.self.view_is) c.arrive.ensures.arrives
