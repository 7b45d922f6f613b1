use Rattle.std.proofs.Common.{refl, lit<}
use Rattle.bgp_story.proofs.WorkedStories.{peering_is, may_join}
use Rattle.story_tests.proofs.stories.joined.Goals as goal

pub got-requires : goal.got-requires
got-requires c = rw (c.in_ok-story.ensures, c.in_ok-reply.ensures) (may_join 0 (peering_is 0 (lit< tt) refl))
