-- How long a session is on its way.
use Rattle.std.specs.Prelude.{ℕ, ◌≡◌, ◌≤◌, ◌<◌, ◌+◌, ◌==◌, Bool, false, List, length, Contains}
use Rattle.std.specs.List.{list_any}
use Rattle.graft_model.specs.Parts.{Mesh, Moved, Back, Place, Frozen, World}
use Rattle.graft_model.specs.declared.event.RouterEvent.TheVariants.{Freeze}
use Rattle.graft_model.specs.Steps.{Event, ByRouter}

-- the item carries the session that moves in this graft, or comes back
abbrev pub carries : ℕ → Mesh → Bool
carries k (Moved graft peering session) = graft == k
carries k (Back graft peering session refusal) = graft == k
carries k item = false

abbrev pub IsFrozenFor : ℕ → Place → Type 0
IsFrozenFor k (Frozen session order) = order.graft ≡ k
IsFrozenFor k place = ⊥

-- The session of a graft is no longer on its way: it has landed or come back, and no router has it frozen for the graft.
pub record HasArrived (k : ℕ) (w : World) : Type 0 where
  pub mesh : (a b : ℕ) → list_any (carries k) (w.mesh a b) ≡ false
  pub places : (r p : ℕ) → ¬ IsFrozenFor k ((w.router r).places p)

-- each channel from a router to the others holds at most n items; and so does each channel to it
abbrev pub SendsAtMost : ℕ → World → ℕ → Type 0
SendsAtMost most w r = (q : ℕ) → length (w.mesh r q) ≤ most

abbrev pub HearsAtMost : ℕ → World → ℕ → Type 0
HearsAtMost most w r = (q : ℕ) → length (w.mesh q r) ≤ most

-- If a router freezes a session in the round after mark t, that session has landed or come back by mark t + 5, which is four rounds later. This
-- requires that the router's channels to the others hold at most 256 items each at the end of the round, and those that lead to it two rounds later.
abbrev pub MovesEnd : (events : ℕ → List Event) (world : ℕ → World) (marks : ℕ) → Type 0
MovesEnd events world marks = (t r k : ℕ) → t + 5 < marks → Contains (events t) (ByRouter r (Freeze k)) → SendsAtMost 256 (world (t + 1)) r
    → HearsAtMost 256 (world (t + 3)) r → HasArrived k (world (t + 5))
