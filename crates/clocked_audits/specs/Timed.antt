-- Clocks beside a run: those of the actors after its events, and the stamps of what is on its way then.
use Rattle.std.specs.Prelude.{ℕ, ◌≡◌, ◌≤◌, ◌+◌, ◌&&◌, max, Bool, false, if◌then◌else◌, List, length, map, drop, Option, Some, None, option_map}
use Rattle.ring_net.specs.declared.entry.JournalEntry.{JournalEntry}
use Rattle.graft_model.specs.Setups.{Setup}
use Rattle.graft_model.specs.Parts.{World}
use Rattle.graft_actors.specs.Actors.{ActorName, IsActor, number_in, same_name}
use Rattle.world_runs.specs.Labs.{actors_in}
use Rattle.world_runs.specs.Marks.{is_go}
use Rattle.audit_clocks.specs.declared.clocks.Clocks.{Clocks}
use Rattle.audit_clocks.specs.Clocks.{actors_of, clock_of, clocks_of, stamps_of}
use Rattle.audit_clocks.specs.Stamps.{next_stamp}
use Rattle.run_clocks.specs.Clocks.{ClockedEvent, clock_behind, greatest, number_taken, on_way, stamps_sent}

-- The clocks are those of a laboratory's actors after these events. The stamps from one to another are those of the items that were sent and not yet
-- taken, which are as many as are on their way in the world.
pub record IsTimed (setup : Setup) (w : World) (earlier : List ClockedEvent) (clocks : Clocks) : Type 0 where
  pub count : actors_of clocks ≡ actors_in setup
  pub clock : (x : ActorName) → IsActor setup x → clock_of clocks (number_in setup x) ≡ clock_behind x earlier
  pub all : greatest (clocks_of clocks) ≡ greatest (map (λ e. e.clock) earlier)
  pub taken : (x y : ActorName) → IsActor setup x → IsActor setup y → number_taken x y earlier ≤ length (stamps_sent x y earlier)
  pub stamps : (x y : ActorName) → IsActor setup x → IsActor setup y
      → stamps_of clocks (number_in setup x) (number_in setup y) ≡ drop (number_taken x y earlier) (stamps_sent x y earlier)
  pub many : (x y : ActorName) → IsActor setup x → IsActor setup y → length (stamps_of clocks (number_in setup x) (number_in setup y)) ≡ on_way w x y

-- ---- what an event takes and sends

-- whether an actor is the named one
abbrev pub is_it : Option ActorName → ActorName → Bool
is_it None x = false
is_it (Some y) x = same_name x y

abbrev pub one_if : Bool → ℕ
one_if t = if t then 1 else 0

abbrev pub AreKnown : Setup → Option ActorName → Type 0
AreKnown setup name = (x : ActorName) → name ≡ Some x → IsActor setup x

-- An event of an actor leads from one world to another: it takes one item from a sender and sends one to a receiver, if these are named, and else
-- nothing. Nothing is on its way from the actor to itself.
pub record MovesNamed (setup : Setup) (w u : World) (maker : ActorName) (from to : Option ActorName) : Type 0 where
  pub maker_known : IsActor setup maker
  pub from_known : AreKnown setup from
  pub to_known : AreKnown setup to
  pub moves : (x y : ActorName) → on_way u x y + one_if (is_it from x && same_name y maker) ≡ on_way w x y + one_if (same_name x maker && is_it to y)
  pub some : (x y : ActorName) → one_if (is_it from x && same_name y maker) ≤ on_way w x y
  pub none_before : on_way w maker maker ≡ 0
  pub none_after : on_way u maker maker ≡ 0

abbrev pub named_number : Setup → Option ActorName → Option ℕ
named_number setup name = option_map (number_in setup) name

-- the same by the numbers of sender and receiver
pub record MovesItems (setup : Setup) (w u : World) (maker : ActorName) (from to : Option ℕ) : Type 0 where
  pub sender : Option ActorName
  pub receiver : Option ActorName
  pub sender_is : named_number setup sender ≡ from
  pub receiver_is : named_number setup receiver ≡ to
  pub named : MovesNamed setup w u maker sender receiver

-- the clock that an entry of this actor must have, by clocks and stamps
abbrev pub due_clock : Setup → Clocks → JournalEntry → (maker : ActorName) → (from : Option ℕ) → ℕ
due_clock setup clocks entry maker from = (if is_go entry then greatest (clocks_of clocks)
    else max (clock_of clocks (number_in setup maker)) (next_stamp (stamps_of clocks) from (number_in setup maker))) + 1
