use Rattle.bgp_session.proofs.Again.{goes_on}
use Rattle.bgp_session.proofs.parts.Parts.set_end.Goals as goal

pub import-requires : goal.import-requires
import-requires c = c.requires.end.stands.sound

pub returns-clause-value : goal.returns-clause-value
returns-clause-value c = (goes_on c.args.self.now c.import.result c.args.end c.import.ensures.same c.requires.keeps c.requires.end).0

pub returns-clause-keeps : goal.returns-clause-keeps
returns-clause-keeps c = (goes_on c.args.self.now c.import.result c.args.end c.import.ensures.same c.requires.keeps c.requires.end).1
