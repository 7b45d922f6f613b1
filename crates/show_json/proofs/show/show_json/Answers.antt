use Rattle.std.proofs.Common.{ap, ◌∙◌}
use Rattle.report_json.specs.Tokens.{with_value}
use Rattle.show_json.specs.Show.{show_json}
use Rattle.show_json.proofs.show.show_json.Goals as goal

-- the one value that was added is the whole
pub returns : goal.returns
returns c =
    let whole = show_json c.args.lab.now in
    c.into_line.ensures whole (c.in_ok-write_show.ensures ∙ ap (with_value whole) c.new-out.ensures)
