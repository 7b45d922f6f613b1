use Rattle.graft_worked.proofs.GraftRun.{graft_runs}
use Rattle.graft_worked.proofs.GraftEnds.{quiet_before, quiet_after, solves_after, transparent_after, entry_kept_solves_nothing}
use Rattle.graft_worked.proofs.laws.a_graft_runs_to_its_end.Goals as goal

pub returns : goal.returns
returns c = record {
  before = quiet_before;
  run = graft_runs quiet_before;
  quiet = quiet_after;
  solves = solves_after;
  transparent = transparent_after;
  entry_kept = entry_kept_solves_nothing;
}
