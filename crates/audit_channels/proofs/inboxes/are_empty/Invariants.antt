use Rattle.std.proofs.Common.{◌≡◌, ◌<◌, ℕ, []}
use Rattle.audit_channels.specs.Channels.{parcels}
use Rattle.audit_channels.proofs.inboxes.are_empty.Given as goal

-- nothing is on its way to the first actors
abbrev pub invariant-loop-to : goal.invariant-loop-to
invariant-loop-to l = (a b : ℕ) → b < l.to → parcels l.inboxes a b ≡ []
