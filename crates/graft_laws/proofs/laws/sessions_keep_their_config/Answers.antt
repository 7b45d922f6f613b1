use Rattle.graft_laws.proofs.laws.sessions_keep_their_config.Goals as goal
use Rattle.graft_laws.proofs.Configs.{always_own}

pub returns : goal.returns
returns c = λ setup w p ok reached. always_own setup ok w reached p
