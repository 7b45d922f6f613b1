-- Four events with their clocks: a router sends an item to another, which takes it; then a group begins; and the other router does something.
use Rattle.std.specs.Prelude.{ℕ, if◌then◌else◌, true, false, List, [], ◌∷◌}
use Rattle.graft_actors.specs.Actors.{ActorName, Router, Operator, same_name}
use Rattle.run_clocks.specs.Clocks.{ClockedEvent}

-- one item for this actor or from it, and none for any other
abbrev pub one_of : ActorName → ActorName → ℕ
one_of x y = if same_name x y then 1 else 0

abbrev pub none_of : ActorName → ℕ
none_of x = 0

abbrev pub sends : ℕ → ClockedEvent
sends clock = record { maker = Router 0; took = none_of; sent = one_of (Router 1); begins = false; clock = clock }

abbrev pub takes : ℕ → ClockedEvent
takes clock = record { maker = Router 1; took = one_of (Router 0); sent = none_of; begins = false; clock = clock }

abbrev pub begins_at : ℕ → ClockedEvent
begins_at clock = record { maker = Operator; took = none_of; sent = none_of; begins = true; clock = clock }

abbrev pub goes_on : ℕ → ClockedEvent
goes_on clock = record { maker = Router 1; took = none_of; sent = none_of; begins = false; clock = clock }

-- the four events, with these clocks
abbrev pub four_at : (sending taking beginning last : ℕ) → List ClockedEvent
four_at a b c d = sends a ∷ takes b ∷ begins_at c ∷ goes_on d ∷ []
