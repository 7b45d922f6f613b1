use Rattle.expect_view.proofs.Worked.{text_is, one_fails}
use Rattle.expect_view.proofs.laws.worked_expectations.Goals as goal

pub returns : goal.returns
returns c = record { text = text_is; failed = one_fails }
