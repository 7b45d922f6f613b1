use Rattle.graft_laws.proofs.FineWorlds.{always_written}
use Rattle.graft_laws.proofs.laws.what_is_told_can_be_written.Goals as goal

pub returns : goal.returns
returns c = always_written
