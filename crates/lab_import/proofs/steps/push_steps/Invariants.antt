use Rattle.std.proofs.Common.{◌≡◌, ℕ, ◌<◌, ◌++◌, true, take, Some, string_bytes}
use Rattle.std.specs.List.{slice_get}
use Rattle.imported_sessions.specs.declared.imported.Said.{Said}
use Rattle.lab_import.specs.Texts.{steps_text}
use Rattle.lab_import.specs.Limits.{fits_step}
use Rattle.lab_import.proofs.StepsSoFar.{Counts}
use Rattle.lab_import.proofs.steps.push_steps.Given as goal

-- the text of the steps so far, what each remote has said in them, and that they have room
abbrev pub invariant-loop-n : goal.invariant-loop-n
invariant-loop-n l = record {
  text : string_bytes l.text ≡ string_bytes l.initial.text ++ steps_text (take l.n l.imported.steps);
  counts : Counts l.imported l.n l.said;
  fits : (m : ℕ) (step : Said) → m < l.n → slice_get l.imported.steps m ≡ Some step → fits_step l.imported m step ≡ true;
}
