use Rattle.still_grafts.proofs.Left.{no_graft_left}
use Rattle.still_grafts.proofs.still_worlds_have_no_graft_left.Goals as goal

pub returns : goal.returns
returns c = λ setup w sound reached still. no_graft_left setup w sound reached still
