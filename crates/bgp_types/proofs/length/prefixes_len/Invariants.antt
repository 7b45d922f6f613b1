use Rattle.std.proofs.Common.{◌≡◌, ◌-◌, ◌^◌, take}
use Rattle.std.specs.Prelude.{min, sum_by}
use Rattle.bgp_types.specs.Lengths.{prefix_size}
use Rattle.bgp_types.proofs.length.prefixes_len.Given as goal

-- those so far are counted
abbrev pub invariant-loop-prefix : goal.invariant-loop-prefix
invariant-loop-prefix l = l.octets ≡ min (sum_by prefix_size (take l.prefix-index l.prefixes)) (2 ^ 64 - 1)
