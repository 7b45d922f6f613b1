use Rattle.world_runs.proofs.Marks.{world_at_mark}
use Rattle.world_runs.proofs.laws.marks_stand_for_worlds.Goals as goal

pub returns : goal.returns
returns g c = λ own session setup u v mark journal is merge ran. world_at_mark own session setup u v mark journal is merge ran
