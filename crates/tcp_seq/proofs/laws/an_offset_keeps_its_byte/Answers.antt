use Rattle.tcp_seq.proofs.laws.an_offset_keeps_its_byte.Goals as goal
use Rattle.tcp_seq.proofs.Arriving.{byte_stays, received_stays}

pub returns-clause-byte : goal.returns-clause-byte
returns-clause-byte c = byte_stays

pub returns-clause-received : goal.returns-clause-received
returns-clause-received c = received_stays
