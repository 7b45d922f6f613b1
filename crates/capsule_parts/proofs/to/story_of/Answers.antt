use Rattle.std.proofs.Common.{ap, ◌∙◌}
use Rattle.bgp_story.specs.States.{StoryValue}
use Rattle.capsule_parts.proofs.Spelled.{shown_writable}
use Rattle.capsule_parts.proofs.to.story_of.Goals as goal

pub part_lines-requires : goal.part_lines-requires
part_lines-requires c = shown_writable c.args.session.now.session c.wide.result c.lines.result.now c.story.ensures.tied c.wide.ensures
    (c.lines.ensures.lines ∙ ap (λ (v : StoryValue). v.lines) c.story.ensures.story)
