use Rattle.std.proofs.Common.{take}
use Rattle.std.specs.List.{flat_map}
use Rattle.lab_answers.specs.Imports.{meds_of_route}
use Rattle.lab_answers.specs.Noted.{NotesMeds}
use Rattle.lab_answers.proofs.imports.Imports.note_prefixes.Given as goal

abbrev pub invariant-loop-prefix : goal.invariant-loop-prefix
invariant-loop-prefix l = NotesMeds (flat_map (λ prefix. meds_of_route l.self prefix l.route) (take l.prefix-index l.prefixes)) l.initial.meds l.meds
