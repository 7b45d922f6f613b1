-- An auditor whose actor has sent items.
use Rattle.std.specs.Prelude.{ℕ, ◌≡◌, ◌==◌, ◌++◌, List, [], if◌then◌else◌}
use Rattle.ring_net.specs.Deeds.{items_for}
use Rattle.audit_channels.specs.Channels.{IsSquare, parcels}
use Rattle.audit_ruling.specs.Rulings.{Parcel}
use Rattle.run_auditor.specs.declared.auditor.Auditor.{Auditor}

-- the same actors and inboxes, with these items at the ends of the channels from this one
pub record HasSent (from : ℕ) (before : Auditor) (sent : List (ℕ × Parcel)) (after : Auditor) : Type 0 where
  pub same : after ≡ record before { inboxes = after.inboxes }
  pub square : (count : ℕ) → IsSquare count before.inboxes.items → IsSquare count after.inboxes.items
  pub channels : (a b : ℕ) → parcels after.inboxes.items a b ≡ parcels before.inboxes.items a b ++ (if a == from then items_for b sent else [])
