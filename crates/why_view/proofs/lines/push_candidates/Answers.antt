use Rattle.std.proofs.Common.{string_bytes, ◌∙◌, option_copied}
use Rattle.why_view.proofs.AllLines.{lines_are}
use Rattle.why_view.proofs.lines.push_candidates.Goals as goal

pub returns : goal.returns
returns c =
    lines_are c.args.input.now c.args.candidates.now c.as_slice-list.result.now c.best-index.result (option_copied c.winner-first.result)
    (string_bytes c.args.text.now) (string_bytes c.push_winner.new.text) (string_bytes c.push_others.new.text)
    (c.as_slice-list.ensures ∙ c.in_ok-ranks.ensures) c.best-index.ensures.choice c.winner-first.ensures c.in_ok-push_winner.ensures c.in_ok-push_others.ensures
