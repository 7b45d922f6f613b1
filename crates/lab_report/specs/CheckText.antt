-- What is said of an accepted input.
use Rattle.std.specs.Prelude.{ℕ, Bool, List, [], ◌∷◌, ◌++◌, length, codes, decimal, if◌then◌else◌}
use Rattle.lab_tables.specs.declared.input.LabInput.{LabInput}

abbrev pub yes_or_no : Bool → List ℕ
yes_or_no holds = if holds then codes "yes" else codes "no"

-- A line with its sizes, and one with the outcomes of the two tests. A settle that is added behind the last step isn't counted.
unfoldable pub check_text : LabInput → (even sure : Bool) → List ℕ
check_text input even sure =
    codes "ok routers " ++ decimal (length input.routers) ++ codes " peerings " ++ decimal (length input.peerings)
    ++ codes " steps " ++ decimal (length input.steps) ++ 10 ∷ []
    ++ codes "even " ++ yes_or_no even ++ codes " sure " ++ yes_or_no sure ++ 10 ∷ []
