use Rattle.std.proofs.Common.{◌≡◌, length}
use Rattle.bgp_types.specs.Many.{many}
use Rattle.bgp_types.specs.PathOctets.{part_at}
use Rattle.bgp_types.proofs.ManyLaws.{after}
use Rattle.attr_codec.proofs.path.path_in.Given as goal

abbrev pub invariant-loop-rest : goal.invariant-loop-rest
invariant-loop-rest l = after l.path (many (part_at l.wide) l.rest) ≡ many (part_at l.wide) l.value

abbrev pub decreases-loop-rest : goal.decreases-loop-rest
decreases-loop-rest l = length l.rest
