use Rattle.std.proofs.Common.{◌<◌, ◌^◌, arith}
use Rattle.bgp_story.proofs.WorkedStories.{peering_is, may_get_open, may_confirm}
use Rattle.story_tests.proofs.stories.confirmed.Goals as goal

pub got-requires : goal.got-requires
got-requires c =
    let fits : c.args.hold < 2 ^ 16 = omega arith in
    rw (c.in_ok-story.ensures, c.in_ok-open.ensures) (may_get_open c.args.hold (peering_is c.args.hold fits c.requires))

pub put-requires : goal.put-requires
put-requires c =
    let fits : c.args.hold < 2 ^ 16 = omega arith in
    rw (c.in_ok-got.ensures.ok, c.in_ok-story.ensures, c.in_ok-open.ensures) (may_confirm c.args.hold (peering_is c.args.hold fits c.requires))
