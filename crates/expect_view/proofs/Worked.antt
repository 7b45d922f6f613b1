-- What is said of the worked run, computed.
use Rattle.std.proofs.Common.{◌≡◌, ◌++◌, false, refl}
use Rattle.std.specs.Prelude.{codes}
use Rattle.std.specs.Fmt.{digits}
use Rattle.bgp_types.specs.Header.{header_fault}
use Rattle.lab_report.specs.Report.{line_end}
use Rattle.expect_view.specs.Expect.{all_hold, counts_line, test_text}
use Rattle.expect_view.specs.Worked.{worked_lab, worked_text}

pub text_is : test_text worked_lab ≡ worked_text
unfolding digits header_fault
text_is = refl

pub one_fails : all_hold worked_lab ≡ false
unfolding digits header_fault
one_fails = refl

-- ---- what is said where nothing is expected

pub nothing_is : counts_line 0 0 ≡ codes "expectations 0 failed 0" ++ line_end
unfolding digits
nothing_is = refl
