use Rattle.std.proofs.Common.{List, subst, sym}
use Rattle.std.specs.List.{AllByRecursion}
use Rattle.bgp_story.specs.declared.line.Line.{Line}
use Rattle.bgp_story.specs.Laws.{IsGotLine}
use Rattle.story_view.proofs.Frames.{got_in_frames}
use Rattle.story_view.proofs.whole.lines_of.Goals as goal

-- the lines begin a legal story
pub returns-clause-got : goal.returns-clause-got
returns-clause-got c = subst (λ (lines : List Line). AllByRecursion IsGotLine lines) (sym c.lines.ensures.lines) (got_in_frames _ _ c.lines.ensures.legal)
