use Rattle.std.proofs.Common.{rules}
use Rattle.tcp_end.proofs.Steps.{answers_by}
use Rattle.tcp_end.proofs.end.End.answer.Goals as goal

pub returns-clause-step : goal.returns-clause-step
returns-clause-step c = answers_by c.args.self.now _ _ (search rules) (search rules) (search rules)
