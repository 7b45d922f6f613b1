use Rattle.std.proofs.Common.{◌≡◌, ◌++◌, take, map}
use Rattle.std.specs.List.{flat_map}
use Rattle.bgp_types.specs.Spelling.{other_written}
use Rattle.bgp_types.specs.WireAttrs.{attr_octets}
use Rattle.attr_codec.proofs.write.put_others.Given as goal

abbrev pub invariant-loop-other : goal.invariant-loop-other
invariant-loop-other l = l.out ≡ l.fn.out ++ flat_map attr_octets (map other_written (take l.other-index l.others))
