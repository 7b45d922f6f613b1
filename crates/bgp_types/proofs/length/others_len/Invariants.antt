use Rattle.std.proofs.Common.{◌≡◌, ◌-◌, ◌^◌, take}
use Rattle.std.specs.Prelude.{min, sum_by, length}
use Rattle.bgp_types.specs.Lengths.{attr_size_of}
use Rattle.bgp_types.proofs.length.others_len.Given as goal

-- those so far are counted
abbrev pub invariant-loop-other : goal.invariant-loop-other
invariant-loop-other l = l.octets ≡ min (sum_by (λ other. attr_size_of (length other.bytes)) (take l.other-index l.others)) (2 ^ 64 - 1)
