use Rattle.std.proofs.Common.{ap, ◌∙◌, rules}
use Rattle.bgp_story.specs.States.{StoryValue}
use Rattle.bgp_session.proofs.Exchanged.{if_ok}
use Rattle.capsule_parts.proofs.Retelling.{told_match}
use Rattle.capsule_parts.proofs.Spelled.{shown_writable}
use Rattle.capsule_parts.proofs.retell.has_told.Goals as goal

pub are_part_lines-requires : goal.are_part_lines-requires
are_part_lines-requires c = shown_writable c.args.session.now.session c.wide.result c.lines.result.now c.story.ensures.tied c.wide.ensures
    (c.lines.ensures.lines ∙ ap (λ (v : StoryValue). v.lines) c.story.ensures.story)

pub returns : goal.returns
returns c = if_ok c.are_part_lines.result
    (λ t same. told_match c.args.session.now.session c.args.story.now t c.wide.result c.lines.result.now c.wide.ensures
    (c.lines.ensures.lines ∙ ap (λ (v : StoryValue). v.lines) c.story.ensures.story) (search rules) same)
    c.are_part_lines.ensures
