use Rattle.std.proofs.Common.{rules, arith}
use Rattle.std.proofs.lemmas.Grind.{common_steps}
use Rattle.tcp_end.proofs.Steps.{reads_by}
use Rattle.tcp_end.proofs.end.End.read.Goals as goal

pub returns-clause-step : goal.returns-clause-step
returns-clause-step c = reads_by c.args.self.now _ c.args.n (search rules) (grind (arith, common_steps))
