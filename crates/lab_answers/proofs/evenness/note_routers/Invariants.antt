use Rattle.std.proofs.Common.{take, map}
use Rattle.std.specs.List.{flat_map}
use Rattle.lab_answers.specs.Noted.{own_med, NotesMeds}
use Rattle.lab_answers.proofs.evenness.note_routers.Given as goal

abbrev pub invariant-loop-router : goal.invariant-loop-router
invariant-loop-router l =
    NotesMeds (flat_map (λ router. map (own_med l.input.home_as) router.networks) (take l.router-index l.input.routers)) l.initial.meds l.meds
