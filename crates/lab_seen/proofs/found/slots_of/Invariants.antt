use Rattle.std.proofs.Common.{◌≡◌, ◌++◌, map}
use Rattle.std.specs.List.{range_with_len}
use Rattle.std.specs.Vec.Iter.{into_iter_items}
use Rattle.lab_seen.specs.Found.{first_on}
use Rattle.lab_seen.proofs.found.slots_of.Given as goal

-- the slots have the first of the sessions so far
abbrev pub invariant-loop-one : goal.invariant-loop-one
invariant-loop-one l = (l.yielded ++ into_iter_items l.one-iterator ≡ into_iter_items l.initial.one-iterator)
    × (l.slots.items ≡ map (first_on l.yielded) (range_with_len 0 l.fn.peerings))
