use Rattle.std.proofs.Common.{◌≡◌, ◌-◌, ◌^◌, take}
use Rattle.std.specs.Prelude.{min}
use Rattle.bgp_types.specs.Paths.{path_count}
use Rattle.bgp_types.proofs.path.path_len.Given as goal

-- the parts so far are counted
abbrev pub invariant-loop-part : goal.invariant-loop-part
invariant-loop-part l = l.count ≡ min (path_count (take l.part-index l.path)) (2 ^ 32 - 1)
