use Rattle.std.proofs.Common.{◌<◌, ◌^◌, arith}
use Rattle.bgp_story.proofs.WorkedStories.{peering_is}
use Rattle.story_tests.proofs.stories.sent.Goals as goal

pub begin-requires : goal.begin-requires
begin-requires c =
    let fits : c.args.hold < 2 ^ 16 = omega arith in
    rw c.new.ensures (peering_is c.args.hold fits c.requires)
