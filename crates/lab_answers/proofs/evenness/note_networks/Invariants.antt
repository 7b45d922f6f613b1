use Rattle.std.proofs.Common.{take, [], ◌∷◌}
use Rattle.std.specs.List.{flat_map}
use Rattle.lab_answers.specs.Noted.{own_med, NotesMeds}
use Rattle.lab_answers.proofs.evenness.note_networks.Given as goal

abbrev pub invariant-loop-prefix : goal.invariant-loop-prefix
invariant-loop-prefix l = NotesMeds (flat_map (λ prefix. own_med l.home_as prefix ∷ []) (take l.prefix-index l.networks)) l.initial.meds l.meds
