use Rattle.std.proofs.Common.{◌≡◌, ◌++◌, take}
use Rattle.std.specs.Prelude.{None}
use Rattle.capsule_bytes.specs.Fields.{spelled, members}
use Rattle.capsule_bytes.specs.Capsules.{line_fields}
use Rattle.capsule_bytes.proofs.write.push_lines.Given as goal

abbrev pub invariant-loop-line : goal.invariant-loop-line
invariant-loop-line l = l.octets ≡ l.initial.octets ++ spelled (members line_fields None (take l.line-index l.lines))
