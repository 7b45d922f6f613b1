use Rattle.std.proofs.Common.{◌≡◌, map, take}
use Rattle.expect_view.specs.Expect.{difference}
use Rattle.expect_json.proofs.verdicts.differences.Given as goal

-- where the run differs from the expectations so far
abbrev pub invariant-loop-expectation : goal.invariant-loop-expectation
invariant-loop-expectation l = l.found.items ≡ map (difference l.lab) (take l.expectation-index l.expects)
