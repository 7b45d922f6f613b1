-- The cells of a net before its first phase.
use Rattle.std.specs.Prelude.{ℕ, ◌≡◌, ◌≢◌, ◌<◌, length, slice_index_or, ◌==◌, true, false, if◌then◌else◌, Option, Some, None, List, [], slice_get, map}
use Rattle.std.specs.declared.alloc.Global.{Global}
use Rattle.rtrb.specs.declared.producer.Producer.{Producer}
use Rattle.rtrb.specs.declared.consumer.Consumer.{Consumer}
use Rattle.rtrb.specs.declared.AnyItems.{AnyItems}
use Rattle.rtrb.specs.Ring.{known_items}
use Rattle.ring_net.specs.declared.entry.Stamped.{Stamped}
use Rattle.ring_net.specs.declared.cell.Cell.{Cell}
use Rattle.ring_net.specs.Posts.{actor_of, clock_of, entries_in, has_edge, waits}
use Rattle.ring_net.specs.Ends.{ring_known}
use Rattle.ring_net.specs.Cells.{ring_to, ring_from}
use Rattle.ring_net.specs.Nets.{IsOneRing, Known, IsNet, out_end, in_end, box_of, waits_of, journal_of, clock_in, cell_number}

module _ {A I : Type 0} where
  -- the cell of this number, with no entry and no edge
  pub record IsBlank (k : ℕ) (c : Cell A I) : Type 0 where
    pub number : actor_of c.post ≡ k
    pub clock : clock_of c.post ≡ 0
    pub entries : entries_in c.post ≡ []
    pub edges : (b : ℕ) → has_edge c.post b ≡ false
    pub boxes : (b : ℕ) → waits c.post b ≡ []
    pub rings : c.rings.slots.items ≡ []
    pub ins : c.ins.slots.items ≡ []

  abbrev pub BlankAt : ℕ → Option (Cell A I) → Type 0
  BlankAt k None = Unit {0}
  BlankAt k (Some c) = IsBlank k c

  abbrev pub AllBlank : List (Cell A I) → Type 0
  AllBlank cells = (k : ℕ) → BlankAt k (slice_get cells k)

  -- one more outbox and one more end
  pub record AddsOut (b : ℕ) (p : Producer (Stamped I) Global AnyItems) (old new : Cell A I) : Type 0 where
    pub actor : new.actor ≡ old.actor
    pub number : actor_of new.post ≡ actor_of old.post
    pub clock : clock_of new.post ≡ clock_of old.post
    pub entries : entries_in new.post ≡ entries_in old.post
    pub edges : (x : ℕ) → has_edge new.post x ≡ (if x == b then true else has_edge old.post x)
    pub boxes : ((x : ℕ) → waits old.post x ≡ []) → (x : ℕ) → waits new.post x ≡ []
    pub rings : (x : ℕ) → ring_to new x ≡ (if x == b then Some p else ring_to old x)
    pub ins : new.ins ≡ old.ins

  pub record AddsIn (a : ℕ) (c : Consumer (Stamped I) Global AnyItems) (old new : Cell A I) : Type 0 where
    pub only : new ≡ record old { ins = new.ins }
    pub ends : (x : ℕ) → ring_from new x ≡ (if x == a then Some c else ring_from old x)

  -- one more edge: the new ends are those of an empty ring
  pub record Connects (a b : ℕ) (old new : List (Cell A I)) : Type 0 where
    pub out : Producer (Stamped I) Global AnyItems
    pub into : Consumer (Stamped I) Global AnyItems
    pub joined : IsOneRing out into
    pub known : Known out into
    pub empty : known_items into ≡ []
    pub outs : (x y : ℕ) → out_end new x y ≡ (if x == a then (if y == b then Some out else out_end old x y) else out_end old x y)
    pub ins : (x y : ℕ) → in_end new x y ≡ (if x == a then (if y == b then Some into else in_end old x y) else in_end old x y)
    pub boxes : (x y : ℕ) → box_of (slice_get new x) y ≡ (if x == a then (if y == b then true else box_of (slice_get old x) y) else box_of (slice_get old x) y)
    pub waiting : ((x y : ℕ) → waits_of (slice_get old x) y ≡ []) → (x y : ℕ) → waits_of (slice_get new x) y ≡ []
    pub journals : (k : ℕ) → journal_of (slice_get new k) ≡ journal_of (slice_get old k)
    pub clocks : (k : ℕ) → clock_in (slice_get new k) ≡ clock_in (slice_get old k)
    pub numbers : (k : ℕ) → cell_number (slice_get new k) k ≡ cell_number (slice_get old k) k
    pub actors : map (λ (c : Cell A I). c.actor) new ≡ map (λ (c : Cell A I). c.actor) old

  -- a net of these edges in which nothing has happened
  pub record Fresh (cells : List (Cell A I)) (edges : List (ℕ × ℕ)) : Type 0 where
    pub net : IsNet cells edges
    pub journals : (k : ℕ) → journal_of (slice_get cells k) ≡ []
    pub clocks : (k : ℕ) → clock_in (slice_get cells k) ≡ 0
    pub boxes : (a b : ℕ) → waits_of (slice_get cells a) b ≡ []
    pub rings : (a b : ℕ) → ring_known (in_end cells a b) ≡ []

-- no edge occurs twice
abbrev pub EdgesOnce : List (ℕ × ℕ) → Type 0
EdgesOnce edges = (i j : ℕ) → i < length edges → j < length edges → slice_index_or edges i (0, 0) ≡ slice_index_or edges j (0, 0) → i ≡ j

-- each edge joins two different ones of this many actors, and no edge occurs twice
pub record AreEdges (count : ℕ) (edges : List (ℕ × ℕ)) : Type 0 where
  pub from : (i : ℕ) → i < length edges → (slice_index_or edges i (0, 0)).0 < count
  pub to : (i : ℕ) → i < length edges → (slice_index_or edges i (0, 0)).1 < count
  pub apart : (i : ℕ) → i < length edges → (slice_index_or edges i (0, 0)).0 ≢ (slice_index_or edges i (0, 0)).1
  pub once : EdgesOnce edges
