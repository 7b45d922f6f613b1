use Rattle.std.proofs.Common.{refl, lit<}
use Rattle.bgp_story.proofs.WorkedStories.{peering_is, may_hear}
use Rattle.story_tests.proofs.stories.heard.Goals as goal

pub got-requires : goal.got-requires
got-requires c = rw (c.in_ok-story.ensures, c.in_ok-update.ensures) (may_hear 0 (peering_is 0 (lit< tt) refl))
