use Rattle.std.proofs.Common.{◌≡◌, ◌-◌, ◌^◌, take}
use Rattle.std.specs.Prelude.{min, sum_by}
use Rattle.bgp_types.specs.Lengths.{cap_size}
use Rattle.bgp_types.proofs.length.caps_len.Given as goal

-- those so far are counted
abbrev pub invariant-loop-cap : goal.invariant-loop-cap
invariant-loop-cap l = l.octets ≡ min (sum_by cap_size (take l.cap-index l.caps)) (2 ^ 64 - 1)
