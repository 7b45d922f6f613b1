use Rattle.graft_laws.proofs.QuietSolves.{quiet_solves_is}
use Rattle.graft_laws.proofs.laws.quiet_solves.Goals as goal

pub returns : goal.returns
returns c setup events w sound run quiet = quiet_solves_is setup w sound (record { events = events; run = run }) quiet
