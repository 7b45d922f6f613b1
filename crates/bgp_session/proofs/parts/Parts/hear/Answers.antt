use Rattle.bgp_session.proofs.Reading.{hears_changes, hears_keeps}
use Rattle.bgp_session.proofs.parts.Parts.hear.Goals as goal

pub returns-clause-step : goal.returns-clause-step
returns-clause-step c =
    (hears_changes c.args.self.now c.args.bytes c.requires.front c.args.update.now
    c.requires.reading c.in_ok-apply.field-0 c.apply.new.self c.take_down.new.self
    c.in_ok-take_down.ensures.ok c.in_ok-apply.ensures.routes c.in_ok-apply.ensures.changed).0

pub returns-clause-keeps : goal.returns-clause-keeps
returns-clause-keeps c =
    (hears_changes c.args.self.now c.args.bytes c.requires.front c.args.update.now
    c.requires.reading c.in_ok-apply.field-0 c.apply.new.self c.take_down.new.self
    c.in_ok-take_down.ensures.ok c.in_ok-apply.ensures.routes c.in_ok-apply.ensures.changed).1

pub returns-in_err-apply-clause-keeps : goal.returns-in_err-apply-clause-keeps
returns-in_err-apply-clause-keeps c = hears_keeps c.args.self.now c.args.bytes c.requires.front
    c.args.update.now c.requires.reading c.apply.new.self c.take_down.new.self c.in_ok-take_down.ensures.ok
