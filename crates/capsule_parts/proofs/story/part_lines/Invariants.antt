use Rattle.std.proofs.Common.{◌≡◌, take}
use Rattle.std.specs.Prelude.{map}
use Rattle.capsule_parts.specs.Parts.{part_line}
use Rattle.capsule_parts.proofs.story.part_lines.Given as goal

abbrev pub invariant-loop-line : goal.invariant-loop-line
invariant-loop-line l = l.parts ≡ map (part_line l.wide) (take l.line-index l.lines)
