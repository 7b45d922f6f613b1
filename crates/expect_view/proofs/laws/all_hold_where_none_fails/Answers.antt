use Rattle.std.proofs.Common.{◌∙◌, ◌++◌, List, length, sym, ap, eq-eqb, eqb-true}
use Rattle.std.specs.Prelude.{not, count_by}
use Rattle.std.specs.List.{list_all, flat_map, enumerate_from}
use Rattle.lab_tables.specs.declared.expectation.ExpectedValue.{ExpectedValue}
use Rattle.expect_view.specs.Expect.{holds, failed_count, expectation_line, counts_line}
use Rattle.expect_view.proofs.Counts.{none_fails}
use Rattle.expect_view.proofs.Worked.{nothing_is}
use Rattle.expect_view.proofs.laws.all_hold_where_none_fails.Goals as goal

pub returns : goal.returns
returns c = record {
  counted = λ lab.
      let same = none_fails (holds lab) lab.input.expects in
      (λ all. eqb-true (failed_count lab) 0 (same ∙ all), λ none. sym same ∙ eq-eqb (failed_count lab) 0 none);
  nothing = λ lab none. ap (list_all (holds lab)) none;
  text = λ lab none. ap (λ (es : List (List ExpectedValue)). flat_map (expectation_line lab) (enumerate_from 0 es)
      ++ counts_line (length es) (count_by (λ e. not (holds lab e)) es)) none ∙ nothing_is;
}
