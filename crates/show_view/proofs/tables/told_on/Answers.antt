use Rattle.std.proofs.Common.{List, sym, ap, ◌∙◌}
use Rattle.std.specs.Prelude.{fold}
use Rattle.std.specs.FinMap as map
use Rattle.std.proofs.lemmas.Result.{IfOk-weaker}
use Rattle.bgp_story.specs.declared.line.Line.{Line}
use Rattle.bgp_story.specs.Readings.{Routes, tell}
use Rattle.show_view.proofs.Octets.{told_closed, told_open}
use Rattle.show_view.proofs.tables.told_on.Goals as goal

pub returns-in-Closed : goal.returns-in-Closed
returns-in-Closed c = c.new.ensures ∙ sym (told_closed c.args.story.now.lines (sym c.in-Closed.ensures))

pub returns-in_default : goal.returns-in_default
returns-in_default c =
    let none : Routes = map.empty in
    IfOk-weaker c.told_in.result _ _ (λ routes is. is ∙ ap (λ (ls : List Line). fold tell none ls) c.lines.ensures.lines
    ∙ sym (told_open c.args.story.now.lines (λ closed. c.in_default.not-Closed (c.state.ensures ∙ closed)))) c.told_in.ensures
