-- What one turn does to a cell.
use Rattle.std.specs.Prelude.{ℕ, ◌≡◌, ◌≤◌, ◌<◌, ◌+◌, true, false, Option, None, List, ◌++◌, length, slice_index_or}
use Rattle.std.specs.declared.alloc.Global.{Global}
use Rattle.rtrb.specs.declared.producer.Producer.{Producer}
use Rattle.rtrb.specs.declared.consumer.Consumer.{Consumer}
use Rattle.rtrb.specs.declared.AnyItems.{AnyItems}
use Rattle.ring_net.specs.declared.entry.Stamped.{Stamped}
use Rattle.ring_net.specs.declared.cell.Cell.{Cell}
use Rattle.ring_net.specs.Deeds.{Deed, Noted, Makes, entries_of, sent_to, taken_from}
use Rattle.ring_net.specs.Posts.{actor_of, clock_of, entries_in, has_edge, waits, SameEdges}
use Rattle.ring_net.specs.Ends.{SameOut, SameIn, ring_sent, ring_free, Emptied}
use Rattle.ring_net.specs.Turns.{ActorDid}

module _ {A I : Type 0} where
  -- the end to this receiver, and the end from this sender
  abbrev pub ring_to : Cell A I → ℕ → Option (Producer (Stamped I) Global AnyItems)
  ring_to c b = slice_index_or c.rings.slots.items b None

  abbrev pub ring_from : Cell A I → ℕ → Option (Consumer (Stamped I) Global AnyItems)
  ring_from c a = slice_index_or c.ins.slots.items a None

-- the cell with this clock
abbrev pub with_clock : {A I : Type 0} → ℕ → Cell A I → Cell A I
with_clock clock c = record c { post = record c.post { clock = clock } }

module _ {A P I : Type 0} (part : A → P) (makes : Makes P I) (took : A → ℕ → I → List (Deed I) → A → Type 0) (turned : A → List (Deed I) → A → Type 0) where
  -- one turn that didn't run out of memory
  pub record CellDid (old new : Cell A I) : Type 0 where
    pub notes : List (Noted I)
    pub did : ActorDid part makes took turned (actor_of old.post) old.actor (clock_of old.post) notes new.actor (clock_of new.post)
    pub journal : entries_in new.post ≡ entries_in old.post ++ entries_of notes
    pub emptied : (a : ℕ) → Emptied (ring_from old a) (taken_from a notes) (ring_from new a)
    pub said : (b : ℕ) → has_edge old.post b ≡ true
        → ring_sent (ring_to new b) ++ waits new.post b ≡ ring_sent (ring_to old b) ++ (waits old.post b ++ sent_to b notes)
    pub pushes : (b : ℕ) → 0 < length (waits new.post b) → length (ring_sent (ring_to old b)) + ring_free (ring_to old b) ≤ length (ring_sent (ring_to new b))

  -- one turn
  pub record CellTurned (old new : Cell A I) : Type 0 where
    pub outs : (b : ℕ) → SameOut (ring_to old b) (ring_to new b)
    pub ins : (a : ℕ) → SameIn (ring_from old a) (ring_from new a)
    pub edges : SameEdges old.post new.post
    pub failed : new.has_failed ≡ false → old.has_failed ≡ false
    pub memory : new.has_failed ≡ false → CellDid old new
