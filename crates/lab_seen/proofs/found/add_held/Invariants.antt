use Rattle.std.proofs.Common.{◌≡◌, ◌++◌, map}
use Rattle.std.specs.Vec.Iter.{into_iter_items}
use Rattle.lab_report.specs.declared.lab.Place.TheVariants.{Held}
use Rattle.lab_seen.specs.Found.{found_at}
use Rattle.lab_seen.proofs.found.add_held.Given as goal

-- the sessions so far are there
abbrev pub invariant-loop-session : goal.invariant-loop-session
invariant-loop-session l = (l.yielded ++ into_iter_items l.session-iterator ≡ into_iter_items l.initial.session-iterator)
    × (l.found ≡ l.fn.found ++ map (found_at (Held l.router)) l.yielded)
