use Rattle.graft_laws.proofs.laws.links_follow_landings.Goals as goal
use Rattle.graft_laws.proofs.Pointing.{always_points}

pub returns : goal.returns
returns c = λ setup w p ok reached. always_points setup ok w reached p
