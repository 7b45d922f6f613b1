use Rattle.tcp_seq.specs.Connection.{fresh_connection}
use Rattle.tcp_seq.proofs.laws.connection_carries_streams.Goals as goal
use Rattle.tcp_seq.proofs.Carried.{at_fresh, steps, runs}

pub returns-clause-fresh : goal.returns-clause-fresh
returns-clause-fresh c = at_fresh

pub returns-clause-step : goal.returns-clause-step
returns-clause-step c = steps

pub returns-clause-run : goal.returns-clause-run
returns-clause-run c states last run = runs fresh_connection states last at_fresh run
