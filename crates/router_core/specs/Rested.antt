-- A router at the end of its turn.
use Rattle.std.specs.Prelude.{ℕ, ◌≡◌, ◌⊎◌}
use Rattle.std.specs.FinMap as map
use Rattle.graft_model.specs.Setups.{Setup}
use Rattle.graft_model.specs.Parts.{Place, Vacant, Live, Frozen, Shadow, RouterPart}
use Rattle.graft_actors.specs.Emissions.{IsRested}
use Rattle.settled_check.specs.Left.{AwaitsAtMost}
use Rattle.router_core.specs.Parts.{HasReadAll}
use Rattle.router_core.specs.Updates.{IsStuck, IsUnwritable}

-- Nothing is due on a live session, unless its next UPDATE has no room or can't be written. Nothing is due where no session is live.
abbrev pub IsDone : Setup → ℕ → RouterPart → ℕ → Place → Type 0
IsDone setup r part p Vacant = part.due_out p ≡ map.empty
IsDone setup r part p (Live session errand) = (part.due_out p ≡ map.empty)
    ⊎ (((n : ℕ) × IsStuck setup r part p session n) ⊎ IsUnwritable setup r part p session)
IsDone setup r part p (Frozen session order) = ⊥
IsDone setup r part p (Shadow graft) = part.due_out p ≡ map.empty

-- A live session has no errand but a pending answer, has read all that it can, has emitted all that it may, and owes no acknowledgement.
abbrev pub IsQuietPlace : Place → Type 0
IsQuietPlace Vacant = Unit {0}
IsQuietPlace (Live session errand) = AwaitsAtMost errand × HasReadAll session × IsRested session.end
IsQuietPlace (Frozen session order) = ⊥
IsQuietPlace (Shadow graft) = Unit {0}

-- No prefix is dirty, and nothing is due to another router.
pub record RestedRouter (setup : Setup) (r : ℕ) (part : RouterPart) : Type 0 where
  pub clean : part.dirty ≡ map.empty
  pub due_in : (q : ℕ) → part.due_in q ≡ map.empty
  pub quiet : (p : ℕ) → IsQuietPlace (part.places p)
  pub done : (p : ℕ) → IsDone setup r part p (part.places p)
