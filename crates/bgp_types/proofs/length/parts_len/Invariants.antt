use Rattle.std.proofs.Common.{◌≡◌, ◌-◌, ◌^◌, take}
use Rattle.std.specs.Prelude.{min, sum_by}
use Rattle.bgp_types.specs.Lengths.{part_size}
use Rattle.bgp_types.proofs.length.parts_len.Given as goal

-- those so far are counted
abbrev pub invariant-loop-part : goal.invariant-loop-part
invariant-loop-part l = l.octets ≡ min (sum_by (part_size l.wide) (take l.part-index l.parts)) (2 ^ 64 - 1)
