use Rattle.graft_worked.proofs.StartRun.{base_starts, whole}
use Rattle.graft_worked.proofs.GraftRun.{graft_runs}
use Rattle.graft_worked.proofs.GraftEnds.{quiet_before}
use Rattle.graft_worked.proofs.laws.base_runs_to_its_end.Goals as goal

pub returns : goal.returns
returns c = record { start = base_starts; whole = whole (graft_runs quiet_before) }
