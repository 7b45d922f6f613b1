use Rattle.bgp_story.proofs.Shapes.{opens_once_is}
use Rattle.bgp_story.proofs.laws.opens_once.Goals as goal

pub returns : goal.returns
returns c = opens_once_is
