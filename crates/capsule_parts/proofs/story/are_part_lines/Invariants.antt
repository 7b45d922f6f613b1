use Rattle.std.proofs.Common.{◌≡◌, take}
use Rattle.std.specs.Prelude.{map}
use Rattle.capsule_parts.specs.Parts.{part_line}
use Rattle.capsule_parts.proofs.story.are_part_lines.Given as goal

abbrev pub invariant-loop-i : goal.invariant-loop-i
invariant-loop-i l = take l.i l.parts ≡ map (part_line l.wide) (take l.i l.lines)
