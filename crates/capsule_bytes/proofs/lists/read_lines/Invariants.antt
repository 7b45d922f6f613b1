use Rattle.std.proofs.Common.{◌≡◌, length}
use Rattle.std.specs.Prelude.{None}
use Rattle.capsule_bytes.specs.Fields.{members}
use Rattle.capsule_bytes.specs.Capsules.{line_fields}
use Rattle.capsule_bytes.specs.Stops.{Passes}
use Rattle.capsule_bytes.proofs.lists.read_lines.Given as goal

-- as many members were read as turns were made
abbrev pub invariant-loop : goal.invariant-loop
invariant-loop l = (length l.lines ≡ l.counter) × Passes (members line_fields None l.lines) l.initial.cursor l.cursor
