use Rattle.std.proofs.Common.{rules}
use Rattle.tcp_end.proofs.Steps.{sends_by}
use Rattle.tcp_end.proofs.end.End.send.Goals as goal

pub returns-clause-step : goal.returns-clause-step
returns-clause-step c = sends_by c.args.self.now _ c.args.bytes.now (search rules) (search rules)
