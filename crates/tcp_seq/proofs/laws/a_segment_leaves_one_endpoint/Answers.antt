use Rattle.tcp_seq.proofs.laws.a_segment_leaves_one_endpoint.Goals as goal
use Rattle.tcp_seq.proofs.Arriving.{some_after, leaves_one}

pub returns-clause-some : goal.returns-clause-some
returns-clause-some c = some_after

pub returns-clause-one : goal.returns-clause-one
returns-clause-one c = leaves_one
