use Rattle.std.proofs.Common.{rules, refl, ap}
use Rattle.bgp_story.specs.Legal.{reply_to}
use Rattle.bgp_session.proofs.Reading.{confirms}
use Rattle.bgp_session.proofs.parts.Parts.confirm.Goals as goal

pub take_down-requires-clause-reply : goal.take_down-requires-clause-reply
take_down-requires-clause-reply c = ap (λ m. (reply_to m).0) c.requires.reading

pub returns-clause-step : goal.returns-clause-step
returns-clause-step c = (confirms c.args.self.now c.args.bytes c.requires.front c.args.theirs.now c.requires.reading c.opened_with-opened.result
    c.opened_with-opened.result.hold c.take_down.new.self c.opened_with-opened.ensures refl c.in_ok-take_down.ensures.ok).0

pub returns-clause-keeps : goal.returns-clause-keeps
returns-clause-keeps c = (confirms c.args.self.now c.args.bytes c.requires.front c.args.theirs.now c.requires.reading
    c.opened_with-opened.result _ c.take_down.new.self c.opened_with-opened.ensures (search rules) c.in_ok-take_down.ensures.ok).1
