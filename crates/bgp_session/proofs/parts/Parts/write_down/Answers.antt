use Rattle.std.proofs.Common.{rules}
use Rattle.bgp_session.proofs.Ends.{all_unsent}
use Rattle.bgp_session.proofs.parts.Parts.write_down.Goals as goal

pub take_back-requires : goal.take_back-requires
take_back-requires c = all_unsent c.args.self.now.end c.send.new.end c.args.octets.now c.requires.emitted (search rules)
