use Rattle.std.proofs.Common.{◌≡◌, drop}
use Rattle.std.specs.List.{list_all}
use Rattle.expect_view.specs.Expect.{holds}
use Rattle.expect_view.proofs.whole.all_hold.Given as goal

-- all hold exactly where those that are left do
abbrev pub invariant-loop-expectation : goal.invariant-loop-expectation
invariant-loop-expectation l = list_all (holds l.lab) (drop l.expectation-index l.expects) ≡ list_all (holds l.lab) l.expects
