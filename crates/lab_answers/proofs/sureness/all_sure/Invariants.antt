use Rattle.std.proofs.Common.{◌≡◌, take}
use Rattle.std.specs.List.{enumerate_from, list_any, list_all}
use Rattle.lab_tables.specs.declared.input.LabInput.{LabInput}
use Rattle.lab_tables.specs.Scripts.{is_settle_step}
use Rattle.sure_inputs.specs.Sure.{is_sure_step}
use Rattle.lab_answers.specs.PlainPeerings.{plain_in}
use Rattle.lab_answers.proofs.Tested.{all_from}
use Rattle.lab_answers.proofs.sureness.all_sure.Given as goal

-- Whether all steps are sure is left to those from here on.
abbrev pub invariant-loop-step : goal.invariant-loop-step
invariant-loop-step l = record {
  settled : l.settled ≡ list_any is_settle_step (take l.step-index l.steps);
  rest : (input : LabInput) → l.plain ≡ plain_in input.steps input.peerings → l.steps ≡ input.steps
      → all_from (λ step. is_sure_step input step.0 step.1) input.steps l.step-index
      ≡ list_all (λ step. is_sure_step input step.0 step.1) (enumerate_from 0 input.steps);
}
