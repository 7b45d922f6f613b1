use Rattle.graft_laws.proofs.MadeBefore.{made_before}
use Rattle.graft_laws.proofs.laws.always_made_before_broken.Goals as goal

pub returns : goal.returns
returns c = made_before
