use Rattle.lab_input.proofs.Plain.{plain}
use Rattle.lab_input.proofs.laws.an_input_may_expect_nothing.Goals as goal

pub returns : goal.returns
returns c = plain
