use Rattle.std.proofs.Common.{◌≡◌, take}
use Rattle.rib_stages.specs.Values.{set_of}
use Rattle.rib_stages.proofs.rib.set_from.Given as goal

abbrev pub invariant-loop-prefix : goal.invariant-loop-prefix
invariant-loop-prefix l = l.set.contents ≡ set_of (take l.prefix-index l.list)
