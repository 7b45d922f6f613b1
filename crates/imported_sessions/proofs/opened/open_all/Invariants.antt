use Rattle.std.proofs.Common.{◌≡◌, ◌++◌, length}
use Rattle.std.specs.Vec.Iter.{into_iter_items}
use Rattle.imported_sessions.specs.Opened.{AreOpened}
use Rattle.imported_sessions.proofs.opened.open_all.Given as goal

abbrev pub invariant-loop-session : goal.invariant-loop-session
invariant-loop-session l = record {
  left : l.yielded ++ into_iter_items l.session-iterator ≡ l.fn.sessions.items;
  count : length l.all ≡ length l.yielded;
  each : AreOpened l.streams l.all;
}
