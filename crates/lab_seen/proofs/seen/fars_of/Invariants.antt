use Rattle.std.proofs.Common.{◌≡◌, ◌+◌}
use Rattle.std.specs.Prelude.{slice_get}
use Rattle.std.specs.List.{flat_map, range_with_len}
use Rattle.lab_seen.specs.Found.{far_in, fars_of}
use Rattle.lab_seen.proofs.seen.fars_of.Given as goal

-- what is seen of the remotes so far is there
abbrev pub invariant-loop-number : goal.invariant-loop-number
invariant-loop-number l = l.fars ≡ flat_map (λ p. fars_of (far_in (slice_get l.actors (l.routers + p)))) (range_with_len 0 l.number)
