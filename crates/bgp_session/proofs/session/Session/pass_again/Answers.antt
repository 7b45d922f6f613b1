use Rattle.std.proofs.Common.{ap, ◌∙◌, subst}
use Rattle.std.specs.Prelude.{IfOk}
use Rattle.bgp_session.specs.Running.{RunningSession}
use Rattle.bgp_session.specs.Inner.{running}
use Rattle.bgp_session.specs.Steps.{PassesIfItMay}
use Rattle.bgp_session.proofs.session.Session.pass_again.Goals as goal

pub returns : goal.returns
returns c = subst (λ (r : RunningSession). IfOk c.pass_again.result (λ passed. PassesIfItMay passed r c.args.round (running c.pass_again.new.self)))
    (ap running c.deref_mut.ensures.value ∙ c.self.view_is) c.pass_again.ensures.passes
