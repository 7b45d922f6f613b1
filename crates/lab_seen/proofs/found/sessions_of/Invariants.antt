use Rattle.std.proofs.Common.{◌≡◌, ◌++◌}
use Rattle.std.specs.List.{flat_map}
use Rattle.std.specs.Vec.Iter.{into_iter_items}
use Rattle.lab_seen.specs.Found.{carried_in}
use Rattle.lab_seen.proofs.found.sessions_of.Given as goal

-- the sessions in the channels so far are there
abbrev pub invariant-loop-channel : goal.invariant-loop-channel
invariant-loop-channel l = (l.yielded ++ into_iter_items l.channel-iterator ≡ into_iter_items l.initial.channel-iterator)
    × (l.found ≡ l.initial.found ++ flat_map carried_in l.yielded)
