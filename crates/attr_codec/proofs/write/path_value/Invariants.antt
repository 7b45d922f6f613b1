use Rattle.std.proofs.Common.{◌≡◌, take}
use Rattle.std.specs.List.{flat_map}
use Rattle.attr_codec.specs.Writing.{part_in_width}
use Rattle.attr_codec.proofs.write.path_value.Given as goal

abbrev pub invariant-loop-part : goal.invariant-loop-part
invariant-loop-part l = l.out ≡ flat_map (part_in_width l.wide) (take l.part-index l.path)
