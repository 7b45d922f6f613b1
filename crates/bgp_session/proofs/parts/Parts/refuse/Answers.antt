use Rattle.std.proofs.Common.{ap}
use Rattle.bgp_story.specs.Legal.{reply_to}
use Rattle.bgp_session.proofs.Reading.{closes}
use Rattle.bgp_session.proofs.parts.Parts.refuse.Goals as goal

pub returns-clause-step : goal.returns-clause-step
returns-clause-step c = (closes c.args.self.now c.args.bytes c.requires.front _ c.in_ok-heard.heard c.take_down.new.self c.drop_routes.new.self
    (ap reply_to c.requires.fault) c.in_ok-take_down.ensures.ok c.drop_routes.ensures c.in_ok-heard.ensures).0

pub returns-clause-keeps : goal.returns-clause-keeps
returns-clause-keeps c = (closes c.args.self.now c.args.bytes c.requires.front _ c.in_ok-heard.heard c.take_down.new.self c.drop_routes.new.self
    (ap reply_to c.requires.fault) c.in_ok-take_down.ensures.ok c.drop_routes.ensures c.in_ok-heard.ensures).1
