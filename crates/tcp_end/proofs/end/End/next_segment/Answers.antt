use Rattle.std.proofs.Common.{rules}
use Rattle.tcp_end.proofs.Steps.{emits_next_by}
use Rattle.tcp_end.proofs.end.End.next_segment.Goals as goal

pub returns-clause-step : goal.returns-clause-step
returns-clause-step c = emits_next_by c.args.self.now _ _ (search rules) (search rules) (search rules)
