use Rattle.std.proofs.Common.{◌≡◌, ◌≤◌, ◌++◌, not, take, string_bytes}
use Rattle.std.specs.Prelude.{count_by}
use Rattle.std.specs.List.{flat_map, enumerate_from}
use Rattle.expect_view.specs.Expect.{expectation_line, holds}
use Rattle.expect_view.proofs.whole.push_expectations.Given as goal

-- the text so far is that of the expectations so far, and so is the number of those that failed
abbrev pub invariant-loop-index : goal.invariant-loop-index
invariant-loop-index l = record {
  text : string_bytes l.text ≡ string_bytes l.initial.text ++ flat_map (expectation_line l.lab) (enumerate_from 0 (take l.index l.expects));
  failed : l.failed ≡ count_by (λ expectation. not (holds l.lab expectation)) (take l.index l.expects);
  few : l.failed ≤ l.index;
}
