use Rattle.std.proofs.Common.{◌≡◌, length}
use Rattle.std.specs.List.{AllByRecursion}
use Rattle.item_channels.proofs.Empties.{IsEmpty}
use Rattle.item_channels.proofs.inboxes.empty_inbox.Given as goal

-- so many channels, and each is empty
abbrev pub invariant-loop-n : goal.invariant-loop-n
invariant-loop-n g l = (length l.channels.items ≡ l._n) × AllByRecursion IsEmpty l.channels.items
