use Rattle.std.proofs.Common.{◌≡◌, ◌<◌, ℕ, []}
use Rattle.item_channels.specs.Channels.{items_between}
use Rattle.item_channels.proofs.inboxes.are_empty.Given as goal

-- nothing is on its way to the first actors
abbrev pub invariant-loop-to : goal.invariant-loop-to
invariant-loop-to g l = (a b : ℕ) → b < l.to → items_between l.inboxes a b ≡ []
