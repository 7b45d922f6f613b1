-- What levelling and a call at a mark do to the cells.
use Rattle.std.specs.Prelude.{ℕ, ◌≡◌, ◌≤◌, ◌<◌, Bool, List, length, map, slice_get, slice_index_or, slice_set}
use Rattle.ring_net.specs.declared.cell.Cell.{Cell}
use Rattle.ring_net.specs.Deeds.{Deed, Makes}
use Rattle.ring_net.specs.Posts.{clock_of, SameEdges, Pauses}
use Rattle.ring_net.specs.Cells.{with_clock}
use Rattle.ring_net.specs.Nets.{out_end, in_end, box_of, cell_number}

module _ {A I : Type 0} where
  -- every clock is the greatest one
  pub record LevelsAll (old new : List (Cell A I)) : Type 0 where
    pub clock : ℕ
    pub bound : (k : ℕ) (d : Cell A I) → k < length old → clock_of (slice_index_or old k d).post ≤ clock
    pub here : ℕ
    pub within : here < length old
    pub is : (d : Cell A I) → clock_of (slice_index_or old here d).post ≡ clock
    pub all : new ≡ map (with_clock clock) old

  -- only an actor and its post may have changed
  pub record PausesCell (old new : Cell A I) : Type 0 where
    pub only : new ≡ record old { actor = new.actor; post = new.post }
    pub edges : SameEdges old.post new.post

  -- the ends of rings stay as they are, and there are outboxes for the same receivers
  pub record KeepsEnds (old new : List (Cell A I)) : Type 0 where
    pub outs : (a b : ℕ) → out_end new a b ≡ out_end old a b
    pub ins : (a b : ℕ) → in_end new a b ≡ in_end old a b
    pub boxes : (a b : ℕ) → box_of (slice_get new a) b ≡ box_of (slice_get old a) b
    pub numbers : (k : ℕ) → cell_number (slice_get new k) k ≡ cell_number (slice_get old k) k

module _ {A P I : Type 0} (part : A → P) (makes : Makes P I) (moves : A → List (Deed I) → A → Type 0) where
  -- the clocks are levelled, the actor k does what it does at a mark, and the clocks are levelled again
  pub record PausesAt (k : ℕ) (old new : List (Cell A I)) (answer : Bool) : Type 0 where
    pub first : List (Cell A I)
    pub cell : Cell A I
    pub before : LevelsAll old first
    pub is : (d : Cell A I) → Pauses part makes moves (slice_index_or first k d).actor (slice_index_or first k d).post cell.actor cell.post answer
    pub only : (d : Cell A I) → PausesCell (slice_index_or first k d) cell
    pub after : LevelsAll (slice_set first k cell) new
