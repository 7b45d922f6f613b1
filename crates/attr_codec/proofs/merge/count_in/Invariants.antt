use Rattle.std.proofs.Common.{◌≡◌, ◌≤◌, ◌*◌, ◌^◌, take}
use Rattle.bgp_types.specs.Paths.{path_count}
use Rattle.attr_codec.proofs.merge.count_in.Given as goal

abbrev pub invariant-loop-part : goal.invariant-loop-part
invariant-loop-part l = record { sum : l.count ≡ path_count (take l.part-index l.path); room : l.count ≤ l.part-index * 2 ^ 64 }
