use Rattle.std.proofs.Common.{take}
use Rattle.std.specs.List.{flat_map, enumerate_from}
use Rattle.lab_setup.specs.Setups.{setup_of, peering_setup}
use Rattle.even_inputs.specs.Evenness.{meds_by}
use Rattle.lab_answers.specs.Noted.{NotesMeds}
use Rattle.lab_answers.proofs.evenness.note_peerings.Given as goal

abbrev pub invariant-loop-i : goal.invariant-loop-i
invariant-loop-i l = NotesMeds
    (flat_map (λ q. meds_by (setup_of l.input) (q.0, peering_setup l.input q)) (enumerate_from 0 (take l.i l.input.peerings))) l.initial.meds l.meds
