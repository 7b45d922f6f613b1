use Rattle.graft_worked.proofs.Puts.{may_put}
use Rattle.graft_worked.proofs.laws.an_update_may_be_put.Goals as goal

pub returns : goal.returns
returns c = may_put
