use Rattle.world_runs.proofs.OnTheWay.{transparent_throughout}
use Rattle.world_runs.proofs.laws.runs_are_transparent.Goals as goal

pub returns : goal.returns
returns c = transparent_throughout c.always_transparent.ensures
