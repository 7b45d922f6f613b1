use Rattle.bgp_story.proofs.WorkedStories.{may_tick, may_beat}
use Rattle.story_tests.proofs.stories.beaten.Goals as goal

pub tick-requires : goal.tick-requires
tick-requires c = rw c.in_ok-story.ensures may_tick

pub put-requires : goal.put-requires
put-requires c = rw (c.in_ok-tick.ensures.ok, c.in_ok-story.ensures) may_beat
