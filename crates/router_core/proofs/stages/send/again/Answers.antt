use Rattle.std.proofs.Common.{sym, ap, ◌∙◌}
use Rattle.std.specs.Option.{option_copied_mut}
use Rattle.router_core.specs.Sending.{SessionSentAgain}
use Rattle.router_core.proofs.SendSteps.{lent_ok, none_lent, sent_again_ok}
use Rattle.router_core.proofs.stages.send.again.Goals as goal

pub returns-in-Some : goal.returns-in-Some
returns-in-Some c = lent_ok SessionSentAgain c.args.places.now c.args.n c.in-Some.session.now c.turn.new.self c.turn.result
    (sym c.live_mut.ensures.value ∙ ap option_copied_mut c.in-Some.is)
    (sent_again_ok c.in-Some.session.now c.turn.new.self c.turn.result c.turn.ensures.within
    c.turn.ensures.none c.turn.ensures.step c.turn.ensures.slice c.turn.ensures.turned)

pub returns-in-None : goal.returns-in-None
returns-in-None c = none_lent SessionSentAgain c.args.places.now c.args.n (sym c.live_mut.ensures.value ∙ ap option_copied_mut c.in-None.is)
