-- Sure inputs have sure laboratories.
use Rattle.std.specs.Prelude.{◌≡◌, true}
use Rattle.lab_tables.specs.declared.input.LabInput.{LabInput}
use Rattle.lab_setup.specs.Accepted.{IsAccepted}
use Rattle.lab_setup.specs.Setups.{setup_of}
use Rattle.sure_results.specs.Results.{IsSure}
use Rattle.sure_inputs.specs.Sure.{is_sure}

abbrev pub SureInputsAreSure : Type 0
SureInputsAreSure = (input : LabInput) → IsAccepted input → is_sure input ≡ true → IsSure (setup_of input)
