use Rattle.tcp_end.proofs.Followed.{first_there, first_back}
use Rattle.tcp_end.proofs.laws.received_are_first_bytes.Goals as goal

pub returns-clause-there : goal.returns-clause-there
returns-clause-there c = first_there

pub returns-clause-back : goal.returns-clause-back
returns-clause-back c = first_back
