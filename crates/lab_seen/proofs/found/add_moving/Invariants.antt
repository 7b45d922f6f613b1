use Rattle.std.proofs.Common.{◌≡◌, ◌++◌}
use Rattle.std.specs.List.{flat_map}
use Rattle.std.specs.Vec.Iter.{into_iter_items}
use Rattle.lab_seen.specs.Found.{carried_by}
use Rattle.lab_seen.proofs.found.add_moving.Given as goal

-- the sessions of the items so far are there
abbrev pub invariant-loop-item : goal.invariant-loop-item
invariant-loop-item l = (l.yielded ++ into_iter_items l.item-iterator ≡ into_iter_items l.initial.item-iterator)
    × (l.found ≡ l.fn.found ++ flat_map carried_by l.yielded)
