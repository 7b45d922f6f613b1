use Rattle.bgp_session.proofs.Rounds.{beats_to}
use Rattle.bgp_session.proofs.parts.Parts.send_keepalive.Goals as goal

pub returns-clause-step : goal.returns-clause-step
returns-clause-step c = (beats_to c.args.self.now c.args.round c.requires.at c.pass_down.new.self c.requires.reply c.in_ok-pass_down.ensures.ok).0

pub returns-clause-keeps : goal.returns-clause-keeps
returns-clause-keeps c = (beats_to c.args.self.now c.args.round c.requires.at c.pass_down.new.self c.requires.reply c.in_ok-pass_down.ensures.ok).1
