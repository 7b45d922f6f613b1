-- Two expectations, one that holds and one that doesn't, and their text.
use Rattle.std.specs.Prelude.{ℕ, List, [], ◌∷◌, ◌++◌, Option, Some, None, codes}
use Rattle.lab_report.specs.Report.{line_end}
use Rattle.expect_view.specs.declared.verdict.Difference.{Difference}

abbrev pub worked_found : List (Option Difference)
worked_found = None ∷ Some (record { key = codes "at"; wanted = codes "west"; got = codes "core" }) ∷ []

abbrev pub worked_line : List ℕ
worked_line =
    codes "{\"expectations\":[{\"got\":null,\"key\":null,\"ok\":true,\"wanted\":null},"
    ++ codes "{\"got\":\"core\",\"key\":\"at\",\"ok\":false,\"wanted\":\"west\"}],\"failed\":1,\"job\":\"test\",\"version\":1}" ++ line_end
