use Rattle.std.proofs.Common.{◌≡◌, ◌++◌, take, string_bytes}
use Rattle.std.specs.Prelude.{codes}
use Rattle.std.specs.List.{flat_map}
use Rattle.lab_report.specs.Report.{part_text}
use Rattle.lab_report.proofs.texts.push_further_parts.Given as goal

-- the text so far is that of the members so far
abbrev pub invariant-loop-part : goal.invariant-loop-part
invariant-loop-part l = string_bytes l.text ≡ string_bytes l.initial.text ++ flat_map (λ p. codes "," ++ part_text p) (take l.part-index l.parts)
