use Rattle.story_readings.proofs.Reaching.{alike}
use Rattle.story_readings.proofs.laws.stories_read_alike.Goals as goal

pub returns : goal.returns
returns c = alike
