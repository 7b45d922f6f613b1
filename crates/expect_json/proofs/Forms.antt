-- Verdicts have no floats, and as many fail as differ.
use Rattle.std.proofs.Common.{◌≡◌, ◌+◌, ◌∙◌, cond, not, List, [], ◌∷◌, map, Option, Some, None, refl, sym, ap}
use Rattle.std.specs.Prelude.{count_by, is_some}
use Rattle.std.proofs.lemmas.List.Sums.{sum_by-cons}
use Rattle.lab_tables.specs.declared.expectation.ExpectedValue.{ExpectedValue}
use Rattle.lab_report.specs.declared.lab.Lab.{Lab}
use Rattle.report_json.proofs.NoFloats.{Whole, with, mapped_whole}
use Rattle.expect_view.specs.Expect.{holds, difference}
use Rattle.expect_view.specs.declared.verdict.Difference.{Difference}
use Rattle.expect_view.proofs.Counts.{differs}
use Rattle.expect_json.specs.Verdicts.{verdict_json, verdicts_json, test_json}

verdict_whole : (found : Option Difference) → Whole (verdict_json found)
verdict_whole None = refl
verdict_whole (Some d) = refl

pub test_whole : (lab : Lab) → Whole (test_json lab)
test_whole lab = with (mapped_whole verdict_json verdict_whole (map (difference lab) lab.input.expects)) refl

-- an expectation fails exactly where the run differs from it
as_many : (lab : Lab) (expects : List (List ExpectedValue))
    → count_by is_some (map (difference lab) expects) ≡ count_by (λ expectation. not (holds lab expectation)) expects
as_many lab [] = refl
as_many lab (e ∷ es) =
    sum_by-cons (λ d. cond (is_some d) 1 0) (difference lab e) (map (difference lab) es)
    ∙ ap (λ b. cond b 1 0 + count_by is_some (map (difference lab) es)) (differs lab e)
    ∙ ap (λ n. cond (not (holds lab e)) 1 0 + n) (as_many lab es)
    ∙ sym (sum_by-cons (λ x. cond (not (holds lab x)) 1 0) e es)

-- the verdicts by where the run differs are those on the run
pub on_lab : (lab : Lab) (found : List (Option Difference)) → found ≡ map (difference lab) lab.input.expects
    → verdicts_json found (count_by is_some found) ≡ test_json lab
on_lab lab found is =
    ap (λ (f : List (Option Difference)). verdicts_json f (count_by is_some f)) is
    ∙ ap (verdicts_json (map (difference lab) lab.input.expects)) (as_many lab lab.input.expects)
