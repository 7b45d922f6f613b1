use Rattle.graft_laws.proofs.DueHeld.{always_held}
use Rattle.graft_laws.proofs.laws.what_is_due_is_held.Goals as goal

pub returns : goal.returns
returns c setup w r sound reached = always_held setup w sound reached r
