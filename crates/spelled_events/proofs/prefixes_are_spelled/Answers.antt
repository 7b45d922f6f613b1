use Rattle.spelled_events.proofs.Worlds.{always_spelled}
use Rattle.spelled_events.proofs.prefixes_are_spelled.Goals as goal

pub returns : goal.returns
returns c = λ setup w event after sound ranges reached step. always_spelled setup sound ranges w event after reached step
