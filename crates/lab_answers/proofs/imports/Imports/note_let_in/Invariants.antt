use Rattle.std.proofs.Common.{take}
use Rattle.std.specs.List.{filter_map}
use Rattle.lab_answers.specs.Imports.{let_in_by}
use Rattle.lab_answers.specs.Noted.{NotesMeds}
use Rattle.lab_answers.proofs.imports.Imports.note_let_in.Given as goal

abbrev pub invariant-loop-policy : goal.invariant-loop-policy
invariant-loop-policy l = NotesMeds (filter_map (let_in_by l.self l.prefix l.route) (take l.policy-index l.self.policies)) l.initial.meds l.meds
