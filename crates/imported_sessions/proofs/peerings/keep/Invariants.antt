use Rattle.std.proofs.Common.{◌≡◌, ◌++◌, length}
use Rattle.std.specs.Vec.Iter.{into_iter_items}
use Rattle.imported_sessions.proofs.Keeping.{AreKept}
use Rattle.imported_sessions.proofs.peerings.keep.Given as goal

abbrev pub invariant-loop-session : goal.invariant-loop-session
invariant-loop-session l = record {
  left : l.yielded ++ into_iter_items l.session-iterator ≡ l.fn.opened;
  kept : AreKept l.streams l.home_as (length l.yielded) l.fn.steps.items l.kept.peerings l.kept.internal l.steps.items;
}
