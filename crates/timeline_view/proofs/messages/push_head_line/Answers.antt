use Rattle.std.proofs.Common.{Some, option_copied, subst, sym, ap, ◌∙◌}
use Rattle.bgp_story.specs.Legal.{IsGot}
use Rattle.timeline_view.proofs.Stories.{got_at}
use Rattle.timeline_view.proofs.messages.push_head_line.Goals as goal

-- what stands in the story was got
pub push_got-requires : goal.push_got-requires
push_got-requires c =
    let line = sym c.line_of.ensures ∙ ap option_copied c.in-Some-Got.is ∙ ap Some c.in-Some-Got.field-0-is in
    subst IsGot (sym c.deref.ensures) (got_at c.args.lines.now c.args.head.index _ c.requires line)
