use Rattle.std.proofs.Common.{rules, ap, ◌∙◌}
use Rattle.std.proofs.lemmas.Iterator.Consumers.{YieldsList-from_filter, map_from_collect}
use Rattle.std.proofs.lemmas.Iterator.Splits.{YieldsList-from_lines}
use Rattle.std.specs.Str.Iter.{lines_rest}
use Rattle.row_harness.specs.Rows.{is_row_text}
use Rattle.row_harness.proofs.rows.rows_in.Goals as goal

pub returns : goal.returns
returns c =
    let lines = YieldsList-from_lines c.args.text.now (ap lines_rest c.filter.ensures.source ∙ c.lines.ensures.rest) in
    map_from_collect _ c.collect.ensures.ran (YieldsList-from_filter _ is_row_text lines c.filter.ensures.closure (λ x b q k. search rules))
