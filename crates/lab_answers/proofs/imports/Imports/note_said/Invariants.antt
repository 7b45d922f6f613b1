use Rattle.std.proofs.Common.{length}
use Rattle.std.specs.List.{filter_map}
use Rattle.bgp_types.specs.Header.{frame_at}
use Rattle.bgp_types.specs.Many.{many}
use Rattle.lab_answers.specs.declared.meds.Meds.{Meds}
use Rattle.lab_answers.specs.Imports.{meds_of_updates, update_in_frame}
use Rattle.lab_answers.specs.Noted.{NotesMeds}
use Rattle.lab_answers.proofs.imports.Imports.note_said.Given as goal

-- with the routes in the bytes that are left, all are noted
abbrev pub invariant-loop-len : goal.invariant-loop-len
invariant-loop-len l = (new : Meds) → NotesMeds (meds_of_updates l.self (filter_map (update_in_frame l.expected) (many frame_at l.left).0)) l.meds new
    → NotesMeds (meds_of_updates l.self (filter_map (update_in_frame l.expected) (many frame_at l.said).0)) l.initial.meds new

abbrev pub decreases-loop-len : goal.decreases-loop-len
decreases-loop-len l = length l.left
