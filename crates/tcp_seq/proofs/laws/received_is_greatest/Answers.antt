use Rattle.tcp_seq.proofs.laws.received_is_greatest.Goals as goal
use Rattle.tcp_seq.proofs.Received.{received_is, byte_in_order}

pub returns-clause-length : goal.returns-clause-length
returns-clause-length c = received_is

pub returns-clause-bytes : goal.returns-clause-bytes
returns-clause-bytes c = byte_in_order
