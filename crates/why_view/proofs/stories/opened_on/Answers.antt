use Rattle.std.proofs.Common.{◌≡◌, List, sym, subst}
use Rattle.std.specs.Prelude.{All, IfOk}
use Rattle.bgp_story.specs.declared.line.Line.{Line}
use Rattle.bgp_story.specs.Laws.{IsGotLine}
use Rattle.bgp_story.specs.Legal.{got_open}
use Rattle.why_view.specs.Stories.{story_peering}
use Rattle.why_view.proofs.Got.{lines_are_got, first_expected}
use Rattle.why_view.proofs.stories.opened_on.Goals as goal

pub first_open-requires : goal.first_open-requires
first_open-requires c =
    subst (λ (lines : List Line). All IsGotLine lines) (sym c.lines.ensures.lines)
    (lines_are_got c.args.story.now.remote_as c.args.story.now.lines c.lines.ensures.legal)

pub returns : goal.returns
returns c = λ input.
    subst (λ (lines : List Line). IfOk c.first_open.result (λ opened. opened ≡ got_open (story_peering input c.args.peering.now) lines)) c.lines.ensures.lines
    (c.first_open.ensures (story_peering input c.args.peering.now) (first_expected input c.args.peering.now))
