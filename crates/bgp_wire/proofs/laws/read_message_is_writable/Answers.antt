use Rattle.bgp_wire.proofs.ReadWritable.{any_spelling, answered}
use Rattle.bgp_wire.proofs.laws.read_message_is_writable.Goals as goal

pub returns-clause-any_spelling : goal.returns-clause-any_spelling
returns-clause-any_spelling c = any_spelling

pub returns-clause-answered : goal.returns-clause-answered
returns-clause-answered c = answered
