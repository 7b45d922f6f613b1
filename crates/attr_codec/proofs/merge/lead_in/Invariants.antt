use Rattle.std.proofs.Common.{◌≡◌, ◌++◌, drop}
use Rattle.bgp_types.specs.Merge.{lead}
use Rattle.attr_codec.proofs.merge.lead_in.Given as goal

abbrev pub invariant-loop-part : goal.invariant-loop-part
invariant-loop-part l = l.out.items ++ lead l.left (drop l.part-index l.path) ≡ lead l.count l.path
