use Rattle.std.proofs.Common.{◌≡◌, length}
use Rattle.std.specs.List.{AllByRecursion}
use Rattle.item_channels.proofs.Empties.{IsEmptyInbox}
use Rattle.item_channels.proofs.inboxes.empty_inboxes.Given as goal

-- so many inboxes, and each is empty
abbrev pub invariant-loop-n : goal.invariant-loop-n
invariant-loop-n g l = (length l.inboxes.items ≡ l._n) × AllByRecursion (IsEmptyInbox l.count) l.inboxes.items
