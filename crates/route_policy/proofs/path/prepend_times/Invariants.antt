use Rattle.std.proofs.Common.{◌≡◌}
use Rattle.route_policy.specs.Paths.{prepend_times}
use Rattle.route_policy.proofs.path.prepend_times.Given as goal

-- as many times as the loop ran
abbrev pub invariant-loop-n : goal.invariant-loop-n
invariant-loop-n l = l.path ≡ prepend_times l._n l.as_number l.initial.path
