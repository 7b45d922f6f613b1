use Rattle.std.proofs.Common.{ap, sym, ◌∙◌, subst}
use Rattle.std.specs.Prelude.{IfOk}
use Rattle.bgp_session.specs.Running.{RunningSession}
use Rattle.bgp_session.specs.Inner.{PassedBy, SessionInvariant, running}
use Rattle.bgp_session.specs.Steps.{MayPass}
use Rattle.bgp_session.proofs.Exchanged.{if_ok}
use Rattle.bgp_session.proofs.Rounds.{at_may, ticks_by}
use Rattle.bgp_session.proofs.session.Session.tick.Goals as goal

pub tick-requires : goal.tick-requires
tick-requires c = at_may c.deref_mut.result.now c.args.round (subst SessionInvariant (sym c.deref_mut.ensures.value) c.self.invariant)
    (subst (λ (r : RunningSession). MayPass r.session c.args.round) (sym (ap running c.deref_mut.ensures.value ∙ c.self.view_is)) c.requires)

pub returns : goal.returns
returns c = if_ok c.tick.result (λ step by. ticks_by step c.args.self.now c.args.round (running c.tick.new.self) c.requires.room by)
    (subst (λ (r : RunningSession). IfOk c.tick.result (λ step. PassedBy step r c.args.round (running c.tick.new.self)))
    (ap running c.deref_mut.ensures.value ∙ c.self.view_is) c.tick.ensures.step)
