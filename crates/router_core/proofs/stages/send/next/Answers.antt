use Rattle.std.proofs.Common.{sym, ap, ◌∙◌}
use Rattle.std.specs.Option.{option_copied_mut}
use Rattle.router_core.specs.Sending.{SentNext}
use Rattle.router_core.proofs.SendSteps.{lent_ok, none_lent, sent_next_ok}
use Rattle.router_core.proofs.stages.send.next.Goals as goal

pub returns-in-Some : goal.returns-in-Some
returns-in-Some c = lent_ok SentNext c.args.places.now c.args.n c.in-Some.session.now c.next_segment.new.self c.next_segment.result
    (sym c.live_mut.ensures.value ∙ ap option_copied_mut c.in-Some.is)
    (sent_next_ok c.in-Some.session.now c.next_segment.new.self c.next_segment.result c.next_segment.ensures.none
    c.next_segment.ensures.all c.next_segment.ensures.step c.next_segment.ensures.slice c.next_segment.ensures.same_turn)

pub returns-in-None : goal.returns-in-None
returns-in-None c = none_lent SentNext c.args.places.now c.args.n (sym c.live_mut.ensures.value ∙ ap option_copied_mut c.in-None.is)
