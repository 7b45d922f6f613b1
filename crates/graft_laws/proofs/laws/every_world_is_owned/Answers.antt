use Rattle.graft_laws.proofs.laws.every_world_is_owned.Goals as goal
use Rattle.graft_laws.proofs.Runs.{always_owned}

pub returns : goal.returns
returns c = λ setup events w ok run. always_owned setup ok w (record { events = events; run = run })
