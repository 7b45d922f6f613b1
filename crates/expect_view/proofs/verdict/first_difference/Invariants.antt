use Rattle.std.proofs.Common.{◌≡◌, map, drop}
use Rattle.lab_keys.specs.Kinds.{first_of}
use Rattle.expect_view.specs.Expect.{difference_of}
use Rattle.expect_view.proofs.verdict.first_difference.Given as goal

-- the first of those that are left is the first of all
abbrev pub invariant-loop-wanted : goal.invariant-loop-wanted
invariant-loop-wanted l =
    first_of (map (difference_of l.lab) (drop l.wanted-index l.expectation)) ≡ first_of (map (difference_of l.lab) l.expectation)
