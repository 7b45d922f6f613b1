-- What remains of a net.
use Rattle.std.specs.Prelude.{ℕ, ◌≡◌, ◌≢◌, List, [], length, map, slice_get, slice_index_or}
use Rattle.ring_net.specs.declared.entry.JournalEntry.{JournalEntry}
use Rattle.ring_net.specs.declared.parts.Left.{Left}
use Rattle.ring_net.specs.declared.cell.Cell.{Cell}
use Rattle.ring_net.specs.Posts.{entries_in, waits}
use Rattle.ring_net.specs.Cells.{ring_from}
use Rattle.ring_net.specs.Phases.{View}
use Rattle.ring_net.specs.Ends.{ring_known}
use Rattle.ring_net.specs.Nets.{in_end, waits_of}

module _ {A I : Type 0} where
  -- the list has the journal of each actor, by number
  pub record HasJournals (v : View A I) (journals : List (List JournalEntry)) : Type 0 where
    pub size : length journals ≡ length v.actors
    pub each : (k : ℕ) → slice_index_or journals k [] ≡ v.journal k

  -- the items of each channel, in the order of the edges
  abbrev pub items_left : View A I → List (ℕ × ℕ) → List (Left I)
  items_left v edges = map (λ e. record { from = e.0; to = e.1; items = map (λ x. x.item) (v.channel e.0 e.1) }) edges

  -- each cell's actor, and each cell's entries
  abbrev pub actors_of : List (Cell A I) → List A
  actors_of cells = map (λ c. c.actor) cells

  abbrev pub journals_of : List (Cell A I) → List (List JournalEntry)
  journals_of cells = map (λ c. entries_in c.post) cells

  -- the cell no longer has the end of the ring from a, and all else is unchanged
  pub record WithoutRing (a : ℕ) (old new : Cell A I) : Type 0 where
    pub only : new ≡ record old { ins = new.ins }
    pub others : (x : ℕ) → x ≢ a → ring_from new x ≡ ring_from old x

  -- the cell no longer has the outbox for b, and all else is unchanged
  pub record WithoutBox (b : ℕ) (old new : Cell A I) : Type 0 where
    pub only : new ≡ record old { post = record old.post { boxes = new.post.boxes } }
    pub others : (x : ℕ) → x ≢ b → waits new.post x ≡ waits old.post x

  -- the items in flight from a to b may be removed, and all else is unchanged
  pub record DrainsChannel (a b : ℕ) (old new : List (Cell A I)) : Type 0 where
    pub rings : (x y : ℕ) → (x ≡ a → y ≡ b → ⊥) → ring_known (in_end new x y) ≡ ring_known (in_end old x y)
    pub boxes : (x y : ℕ) → (x ≡ a → y ≡ b → ⊥) → waits_of (slice_get new x) y ≡ waits_of (slice_get old x) y
    pub actors : actors_of new ≡ actors_of old
    pub journals : journals_of new ≡ journals_of old
