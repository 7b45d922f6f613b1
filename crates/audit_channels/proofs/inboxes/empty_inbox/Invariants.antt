use Rattle.std.proofs.Common.{◌≡◌, length}
use Rattle.std.specs.List.{AllByRecursion}
use Rattle.audit_channels.proofs.Empties.{IsEmpty}
use Rattle.audit_channels.proofs.inboxes.empty_inbox.Given as goal

-- so many channels, and each is empty
abbrev pub invariant-loop-n : goal.invariant-loop-n
invariant-loop-n l = (length l.channels.items ≡ l._n) × AllByRecursion IsEmpty l.channels.items
