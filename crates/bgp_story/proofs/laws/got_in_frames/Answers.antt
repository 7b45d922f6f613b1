use Rattle.bgp_story.proofs.Shapes.{got_in_frames_is}
use Rattle.bgp_story.proofs.laws.got_in_frames.Goals as goal

pub returns : goal.returns
returns c = got_in_frames_is
