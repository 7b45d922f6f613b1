use Rattle.std.proofs.Common.{rules}
use Rattle.tcp_end.proofs.Handed.{exported}
use Rattle.tcp_end.proofs.end.End.export.Goals as goal

pub returns-clause-at_rest : goal.returns-clause-at_rest
returns-clause-at_rest c = exported c.self.inside _ (search rules) c.self.invariant
