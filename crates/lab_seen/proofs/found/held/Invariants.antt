use Rattle.std.proofs.Common.{◌≡◌, drop}
use Rattle.std.specs.Prelude.{slice_get}
use Rattle.std.specs.List.{flat_map, range_with_len}
use Rattle.std.specs.Vec.Iter.{into_iter_items}
use Rattle.lab_seen.specs.Found.{held_by}
use Rattle.lab_seen.proofs.found.held.Given as goal

-- the sessions of the routers so far are there
abbrev pub invariant-loop-number : goal.invariant-loop-number
invariant-loop-number l = (into_iter_items l.nodes ≡ drop l.number l.fn.actors)
    × (l.found ≡ flat_map (λ r. held_by r (slice_get l.fn.actors r)) (range_with_len 0 l.number))
