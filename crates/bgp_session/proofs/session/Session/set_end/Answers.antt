use Rattle.std.proofs.Common.{ap, sym, ◌∙◌, subst}
use Rattle.bgp_session.specs.Running.{RunningSession}
use Rattle.bgp_session.specs.Inner.{running}
use Rattle.bgp_session.specs.Steps.{IsEndFor}
use Rattle.bgp_session.proofs.session.Session.set_end.Goals as goal

pub set_end-requires-clause-end : goal.set_end-requires-clause-end
set_end-requires-clause-end c =
    subst (λ (r : RunningSession). IsEndFor r.session c.args.end) (sym (ap running c.deref_mut.ensures.value ∙ c.self.view_is)) c.requires
