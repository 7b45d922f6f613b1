-- Which expectations hold of a run, as JSON.
use Rattle.std.specs.Prelude.{ℕ, Bool, true, false, List, [], ◌∷◌, map, Option, Some, None, codes}
use Rattle.serde_json.specs.Data.{Data, null, boolean, string}
use Rattle.lab_report.specs.declared.lab.Lab.{Lab}
use Rattle.report_json.specs.Values.{count, list_of, fields, version}
use Rattle.expect_view.specs.Expect.{difference, failed_count}
use Rattle.expect_view.specs.declared.verdict.Difference.{Difference}

-- whether an expectation holds; and the key, what is wanted and what the run has, where it doesn't
abbrev pub compared_json : (got key : Data) → (ok : Bool) → (wanted : Data) → Data
compared_json got key ok wanted =
    fields ((codes "got", got) ∷ (codes "key", key) ∷ (codes "ok", boolean ok) ∷ (codes "wanted", wanted) ∷ [])

abbrev pub held_json : Data
held_json = compared_json null null true null

abbrev pub differing_json : Difference → Data
differing_json d = compared_json (string d.got) (string d.key) false (string d.wanted)

abbrev pub verdict_json : Option Difference → Data
verdict_json None = held_json
verdict_json (Some d) = differing_json d

abbrev pub verdicts_list : List (Option Difference) → Data
verdicts_list found = list_of (map verdict_json found)

-- a verdict for each expectation, by where the run differs from it, and how many fail
abbrev pub verdicts_json : List (Option Difference) → (failed : ℕ) → Data
verdicts_json found failed = fields
    ((codes "expectations", verdicts_list found) ∷ (codes "failed", count failed) ∷ (codes "job", string (codes "test")) ∷ (codes "version", version) ∷ [])

-- the verdicts on the expectations of the input, in its order
abbrev pub test_json : Lab → Data
test_json lab = verdicts_json (map (difference lab) lab.input.expects) (failed_count lab)
