use Rattle.std.proofs.Common.{length}
use Rattle.attr_codec.proofs.ReadLaws.{SoFar}
use Rattle.attr_codec.proofs.read.said_at.Given as goal

abbrev pub invariant-loop-rest : goal.invariant-loop-rest
invariant-loop-rest l = SoFar l.wide l.bytes l.rest l.said l.seen

abbrev pub decreases-loop-rest : goal.decreases-loop-rest
decreases-loop-rest l = length l.rest
