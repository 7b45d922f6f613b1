use Rattle.std.proofs.Common.{◌≡◌, ◌++◌, Some, length, map}
use Rattle.std.specs.Vec.Iter.{into_iter_items, into_iter_len}
use Rattle.router_core.specs.Places.{sessions_in}
use Rattle.router_core.proofs.place.sessions_of.Given as goal

-- the sessions of the places so far are there
abbrev pub invariant-loop-place : goal.invariant-loop-place
invariant-loop-place l = (l.yielded ++ into_iter_items l.place-iterator ≡ into_iter_items l.initial.place-iterator)
    × (l.sessions ≡ sessions_in (map Some l.yielded))
    × (into_iter_len l.place-iterator ≡ length (into_iter_items l.place-iterator))
