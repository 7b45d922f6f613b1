-- Worlds in which nothing of a graft is on its way, none is stored, and no step may be ordered.
use Rattle.std.specs.Prelude.{ℕ, ◌≡◌, []}
use Rattle.graft_model.specs.Setups.{Setup, IsSetup}
use Rattle.graft_model.specs.Parts.{Place, Vacant, Live, Frozen, Shadow, World}
use Rattle.graft_laws.specs.Keeps.{Reached}
use Rattle.operator_state.specs.Holds.{NothingToOrder}
use Rattle.settled_check.specs.Left.{AwaitsAtMost, HoldsGraft, HasUnissued, IsOpen}

-- no graft is stored at a place, no word is owed there, and no session is frozen
abbrev pub HasNoneStored : Place → Type 0
HasNoneStored Vacant = Unit {0}
HasNoneStored (Live session errand) = AwaitsAtMost errand
HasNoneStored (Frozen session order) = ⊥
HasNoneStored (Shadow graft) = Unit {0}

-- Nothing is on its way between routers, or between routers and the operator; no graft is stored at a place; and the operator may order no step.
pub record IsStill (setup : Setup) (w : World) : Type 0 where
  pub mesh : (a b : ℕ) → w.mesh a b ≡ []
  pub orders : (r : ℕ) → w.orders r ≡ []
  pub reports : (r : ℕ) → w.reports r ≡ []
  pub places : (r p : ℕ) → HasNoneStored ((w.router r).places p)
  pub operator : NothingToOrder setup w.operator

-- No router has anything of a graft, each graft that was ordered has its outcome, and no step of the current group is left to be ordered.
pub record HasNoGraftLeft (setup : Setup) (w : World) : Type 0 where
  pub routers : (r k : ℕ) → ¬ HoldsGraft (w.router r) k
  pub unended : (k : ℕ) → ¬ IsOpen setup w.operator k
  pub script : ¬ HasUnissued setup w.operator

abbrev pub StillWorldsHaveNoGraftLeft : Type 0
StillWorldsHaveNoGraftLeft = (setup : Setup) (w : World) → IsSetup setup → Reached setup w → IsStill setup w → HasNoGraftLeft setup w
