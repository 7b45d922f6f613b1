use Rattle.tcp_end.proofs.Followed.{pair_steps, pair_runs}
use Rattle.tcp_end.proofs.laws.calls_are_steps.Goals as goal

pub returns-clause-step : goal.returns-clause-step
returns-clause-step c = pair_steps

pub returns-clause-run : goal.returns-clause-run
returns-clause-run c = pair_runs
