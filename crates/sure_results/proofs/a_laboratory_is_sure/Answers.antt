use Rattle.sure_results.proofs.a_laboratory_is_sure.Goals as goal
use Rattle.sure_results.proofs.Worked.{laboratory_is_sure}

pub returns-clause-sure : goal.returns-clause-sure
returns-clause-sure c = laboratory_is_sure
