-- Worlds of actors, and the runs that their events make.
use Rattle.std.specs.Prelude.{ℕ, ◌≡◌, ◌≢◌, ◌==◌, if◌then◌else◌, Option, Some, None, List, [], ◌∷◌, ◌++◌}
use Rattle.ring_net.specs.Deeds.{Deed, Makes, items_for}

-- The part of the world that each actor is, and the items in flight from one actor to another.
pub record DeedWorld (P I : Type 0) : Type 0 where
  pub part : ℕ → P
  pub channel : ℕ → ℕ → List I

-- the same part of each actor, and the same items in flight
pub record SameWorld {P I : Type 0} (w v : DeedWorld P I) : Type 0 where
  pub parts : (k : ℕ) → v.part k ≡ w.part k
  pub channels : (a b : ℕ) → v.channel a b ≡ w.channel a b

module _ {I : Type 0} where
  -- the item that was taken, if it was sent by a
  abbrev pub taken_of : ℕ → Option (ℕ × I) → List I
  taken_of a None = []
  taken_of a (Some t) = if t.0 == a then t.1 ∷ [] else []

  -- what an event takes from the channel from a to b, and what it sends there
  abbrev pub takes_on : Deed I → ℕ → ℕ → List I
  takes_on d a b = if b == d.entry.actor then taken_of a d.taken else []

  abbrev pub sends_on : Deed I → ℕ → ℕ → List I
  sends_on d a b = if a == d.entry.actor then items_for b d.sent else []

module _ {P I : Type 0} (makes : Makes P I) where
  -- One event. Its actor makes it on its own part; what it takes is the head of a channel, and then what it sends is appended to channels. All else
  -- is unchanged.
  pub record DeedStep (w : DeedWorld P I) (d : Deed I) (v : DeedWorld P I) : Type 0 where
    pub made : makes d.entry.actor (w.part d.entry.actor) d.entry d.taken d.sent (v.part d.entry.actor)
    pub others : (k : ℕ) → k ≢ d.entry.actor → v.part k ≡ w.part k
    pub rest : ℕ → ℕ → List I
    pub takes : (a b : ℕ) → w.channel a b ≡ takes_on d a b ++ rest a b
    pub sends : (a b : ℕ) → v.channel a b ≡ rest a b ++ sends_on d a b

  -- the events of the list, one after another
  abbrev pub DeedRun : DeedWorld P I → List (Deed I) → DeedWorld P I → Type 0
  DeedRun w [] v = SameWorld w v
  DeedRun w (d ∷ ds) v = (m : DeedWorld P I) × DeedStep w d m × DeedRun m ds v
