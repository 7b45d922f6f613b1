use Rattle.std.proofs.Common.{sym, ap, ◌∙◌}
use Rattle.std.specs.Option.{option_copied_mut}
use Rattle.router_core.specs.Reading.{SessionReads}
use Rattle.router_core.proofs.SendSteps.{lent_ok, none_lent}
use Rattle.router_core.proofs.place.read.Goals as goal

pub returns-in-Some : goal.returns-in-Some
returns-in-Some c = lent_ok SessionReads c.args.places.now c.args.n c.in-Some.session.now c.read.new.self c.read.result
    (sym c.live_mut.ensures.value ∙ ap option_copied_mut c.in-Some.is) c.read.ensures

pub returns-in-None : goal.returns-in-None
returns-in-None c = none_lent SessionReads c.args.places.now c.args.n (sym c.live_mut.ensures.value ∙ ap option_copied_mut c.in-None.is)
