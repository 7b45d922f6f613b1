use Rattle.std.proofs.Common.{ap, ◌∙◌}
use Rattle.bgp_story.specs.Legal.{both_offer}
use Rattle.why_view.specs.Stories.{story_peering}
use Rattle.show_view.proofs.Waited.{unreceived_so}
use Rattle.show_view.proofs.waiting.is_unreceived.Goals as goal

pub returns : goal.returns
returns c = λ input.
    unreceived_so (story_peering input c.args.peering.now) c.args.story.now.lines c.lines.result.now c.args.far.now c.is_wide.result
    c.len.result c.sent_octets-sent.result c.len.ensures c.lines.ensures.lines
    (c.is_wide.ensures input ∙ ap (both_offer (story_peering input c.args.peering.now).first) (c.in_ok-opened.ensures input)) c.sent_octets-sent.ensures
