-- What is said of an accepted input, as JSON.
use Rattle.std.specs.Prelude.{Bool, true, [], ◌∷◌, length, codes}
use Rattle.serde_json.specs.Data.{Data, boolean, string}
use Rattle.lab_tables.specs.declared.input.LabInput.{LabInput}
use Rattle.report_json.specs.Values.{count, fields, version}

-- its sizes; a settle that is added behind the last step isn't counted
abbrev pub sizes_json : LabInput → Data
sizes_json input = fields
    ((codes "peerings", count (length input.peerings)) ∷ (codes "routers", count (length input.routers)) ∷ (codes "steps", count (length input.steps)) ∷ [])

-- its sizes, and the outcomes of the two tests
abbrev pub check_json : LabInput → (even sure : Bool) → Data
check_json input even sure = fields
    ((codes "counts", sizes_json input) ∷ (codes "even", boolean even) ∷ (codes "job", string (codes "check")) ∷ (codes "ok", boolean true)
    ∷ (codes "sure", boolean sure) ∷ (codes "version", version) ∷ [])
