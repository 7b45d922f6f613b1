use Rattle.even_inputs.proofs.even_laboratories_settle_evenly.Goals as goal
use Rattle.even_inputs.proofs.Joined.{even_then}
use Rattle.even_inputs.proofs.Timers.{no_timer}

pub returns : goal.returns
returns c setup w prefix ok timer even reached settled = even_then setup even prefix w ok (no_timer setup timer) reached settled
