use Rattle.std.proofs.Common.{sym, ap, ◌∙◌}
use Rattle.std.specs.Option.{option_copied_mut}
use Rattle.router_core.specs.Ticking.{Ticked}
use Rattle.router_core.proofs.SendSteps.{lent_ok, none_lent}
use Rattle.router_core.proofs.stages.rounds.tick.Goals as goal

pub returns-in-Some : goal.returns-in-Some
returns-in-Some c = lent_ok (Ticked c.args.round) c.args.places.now c.args.n c.in-Some.session.now c.tick_session.new.session c.tick_session.result
    (sym c.live_mut.ensures.value ∙ ap option_copied_mut c.in-Some.is) c.tick_session.ensures

pub returns-in-None : goal.returns-in-None
returns-in-None c = none_lent (Ticked c.args.round) c.args.places.now c.args.n (sym c.live_mut.ensures.value ∙ ap option_copied_mut c.in-None.is)
