use Rattle.std.proofs.Common.{rules}
use Rattle.bgp_session.proofs.Rounds.{expires_to}
use Rattle.bgp_session.proofs.parts.Parts.expire.Goals as goal

pub returns-clause-step : goal.returns-clause-step
returns-clause-step c = (expires_to c.args.self.now c.args.round c.requires.at c.in_ok-heard.heard c.pass_down.new.self
    c.drop_routes.new.self c.requires.reply (search rules) c.drop_routes.ensures c.in_ok-heard.ensures).0

pub returns-clause-keeps : goal.returns-clause-keeps
returns-clause-keeps c = (expires_to c.args.self.now c.args.round c.requires.at c.in_ok-heard.heard c.pass_down.new.self
    c.drop_routes.new.self c.requires.reply (search rules) c.drop_routes.ensures c.in_ok-heard.ensures).1
