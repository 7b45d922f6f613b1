-- Inputs that are accepted.
use Rattle.std.specs.Prelude.{ℕ, List}
use Rattle.lab_tables.specs.declared.input.LabInput.{LabInput}
use Rattle.lab_input.specs.Labs.{InputOf}

-- Some bytes are this input.
pub record IsAccepted (input : LabInput) : Type 0 where
  pub bytes : List ℕ
  pub is : InputOf bytes input
