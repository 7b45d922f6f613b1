use Rattle.std.proofs.Common.{sym, ap, ◌∙◌}
use Rattle.std.specs.Option.{option_copied_mut}
use Rattle.router_core.specs.Sending.{SessionSentAnswer}
use Rattle.router_core.proofs.SendSteps.{lent_one, none_lent}
use Rattle.router_core.proofs.stages.send.answer.Goals as goal

pub returns-in-Some : goal.returns-in-Some
returns-in-Some c = lent_one SessionSentAnswer c.args.places.now c.args.n c.in-Some.session.now c.answer.new.self c.answer.result
    (sym c.live_mut.ensures.value ∙ ap option_copied_mut c.in-Some.is)
    (record { some = c.answer.ensures.some; step = c.answer.ensures.step; same_turn = c.answer.ensures.same_turn })

pub returns-in-None : goal.returns-in-None
returns-in-None c = none_lent SessionSentAnswer c.args.places.now c.args.n (sym c.live_mut.ensures.value ∙ ap option_copied_mut c.in-None.is)
