use Rattle.bgp_story.proofs.StoryLaws.{state_is}
use Rattle.bgp_story.proofs.laws.state_by_lines.Goals as goal

pub returns : goal.returns
returns c = state_is
