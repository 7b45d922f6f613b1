use Rattle.std.proofs.Common.{append_assoc}
use Rattle.lab_hints.proofs.wanted.push_octets.Goals as goal

pub returns : goal.returns
returns c = simp append_assoc c.in_ok-write.ensures.bytes
