use Rattle.std.proofs.Common.{◌≡◌, [], map}
use Rattle.std.specs.List.{range_with_len}
use Rattle.lab_seen.specs.Found.{first_on}
use Rattle.lab_seen.proofs.found.no_slots.Given as goal

-- the slots so far have nothing
abbrev pub invariant-loop : goal.invariant-loop
invariant-loop l = l.slots.items ≡ map (first_on []) (range_with_len 0 l.counter)
