use Rattle.std.proofs.Common.{List, sym, ap, subst, ◌∙◌}
use Rattle.std.specs.Prelude.{All, fold}
use Rattle.std.specs.FinMap as map
use Rattle.std.proofs.lemmas.Result.{IfOk-weaker}
use Rattle.bgp_types.specs.declared.fault.Expected.{Expected}
use Rattle.bgp_story.specs.declared.line.Line.{Line}
use Rattle.bgp_story.specs.Laws.{IsGotLine}
use Rattle.bgp_story.specs.Readings.{Routes, hear}
use Rattle.why_view.specs.Stories.{story_peering}
use Rattle.why_view.proofs.Got.{lines_are_got, heard_closed, heard_open}
use Rattle.why_view.proofs.stories.routes_on.Goals as goal

pub returns-in-Closed : goal.returns-in-Closed
returns-in-Closed c = λ input got.
    c.new.ensures ∙ sym (heard_closed (story_peering input c.args.peering.now) c.args.story.now.lines (sym c.in-Closed.ensures))

pub heard_in-requires : goal.heard_in-requires
heard_in-requires c =
    subst (λ (lines : List Line). All IsGotLine lines) (sym c.lines.ensures.lines)
    (lines_are_got c.args.story.now.remote_as c.args.story.now.lines c.lines.ensures.legal)

pub returns-in_default : goal.returns-in_default
returns-in_default c = λ input got.
    let lines = c.args.story.now.lines in
    let none : Routes = map.empty in
    IfOk-weaker c.heard_in.result _ _ (λ routes is. is
    ∙ ap (λ (ls : List Line). fold (hear c.established-expected.result) none ls) c.lines.ensures.lines
    ∙ ap (λ (e : Expected). fold (hear e) none lines) (c.established-expected.ensures input lines got)
    ∙ sym (heard_open (story_peering input c.args.peering.now) lines (λ closed. c.in_default.not-Closed (c.state.ensures ∙ closed)))) c.heard_in.ensures
