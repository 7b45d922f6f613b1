use Rattle.sure_results.proofs.Sure.{results_are_sure}
use Rattle.sure_results.proofs.sure_laboratories_have_results.Goals as goal

pub returns : goal.returns
returns c = results_are_sure
