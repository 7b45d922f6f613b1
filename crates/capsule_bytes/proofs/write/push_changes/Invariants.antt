use Rattle.std.proofs.Common.{◌≡◌, ◌++◌, take}
use Rattle.std.specs.Prelude.{None}
use Rattle.capsule_bytes.specs.Fields.{spelled, members}
use Rattle.capsule_bytes.specs.Capsules.{change_fields}
use Rattle.capsule_bytes.proofs.write.push_changes.Given as goal

abbrev pub invariant-loop-change : goal.invariant-loop-change
invariant-loop-change l = l.octets ≡ l.initial.octets ++ spelled (members change_fields None (take l.change-index l.changes))
