use Rattle.std.proofs.Common.{◌≡◌, ◌++◌}
use Rattle.std.specs.List.{flat_map}
use Rattle.std.specs.Vec.Iter.{into_iter_items}
use Rattle.lab_seen.specs.Found.{places_in, views_in}
use Rattle.lab_seen.proofs.found.split.Given as goal

-- the places and views of the slots so far are there
abbrev pub invariant-loop-slot : goal.invariant-loop-slot
invariant-loop-slot l = (l.yielded ++ into_iter_items l.slot-iterator ≡ into_iter_items l.initial.slot-iterator)
    × (l.placement ≡ flat_map places_in l.yielded)
    × (l.sessions ≡ flat_map views_in l.yielded)
