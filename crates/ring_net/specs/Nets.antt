-- What contracts see of a net's cells, and the facts that a net maintains.
use Rattle.std.specs.Prelude.{ℕ, ◌≡◌, ◌≤◌, ◌+◌, Bool, false, Option, Some, None, List, [], ◌++◌, length, map, is_some, slice_get}
use Rattle.std.specs.declared.alloc.Global.{Global}
use Rattle.rtrb.specs.declared.producer.Producer.{Producer}
use Rattle.rtrb.specs.declared.consumer.Consumer.{Consumer}
use Rattle.rtrb.specs.declared.AnyItems.{AnyItems}
use Rattle.rtrb.specs.Ring.{IsPair, sent, received, known_free, known_items, producer_capacity, consumer_capacity, ProducerLooked, ConsumerLooked}
use Rattle.ring_net.specs.declared.entry.JournalEntry.{JournalEntry}
use Rattle.ring_net.specs.declared.entry.Stamped.{Stamped}
use Rattle.ring_net.specs.declared.cell.Cell.{Cell}
use Rattle.ring_net.specs.Posts.{actor_of, clock_of, entries_in, has_edge, waits}
use Rattle.ring_net.specs.Ends.{ring_known}
use Rattle.ring_net.specs.Cells.{ring_to, ring_from}
use Rattle.ring_net.specs.Phases.{View, is_edge}

module _ {T : Type 0} where
  -- reading an end changes only what the end knows
  abbrev pub LookedOut : Option (Producer T Global AnyItems) → Option (Producer T Global AnyItems) → Type 0
  LookedOut None None = Unit {0}
  LookedOut None (Some q) = ⊥
  LookedOut (Some p) None = ⊥
  LookedOut (Some p) (Some q) = ProducerLooked p q

  abbrev pub LookedIn : Option (Consumer T Global AnyItems) → Option (Consumer T Global AnyItems) → Type 0
  LookedIn None None = Unit {0}
  LookedIn None (Some q) = ⊥
  LookedIn (Some p) None = ⊥
  LookedIn (Some p) (Some q) = ConsumerLooked p q

  -- both ends know the state after a read: what was taken out and what is in the ring are all that was put in, and every other slot is free
  pub record Level (p : Producer T Global AnyItems) (c : Consumer T Global AnyItems) : Type 0 where
    pub items : received c ++ known_items c ≡ sent p
    pub slots : producer_capacity p + length (received c) ≤ known_free p + length (sent p)

  -- the same in numbers
  pub record Known (p : Producer T Global AnyItems) (c : Consumer T Global AnyItems) : Type 0 where
    pub items : length (received c) + length (known_items c) ≡ length (sent p)
    pub slots : producer_capacity p + length (received c) ≤ known_free p + length (sent p)

  -- the ends of one ring with 256 slots
  pub record IsOneRing (p : Producer T Global AnyItems) (c : Consumer T Global AnyItems) : Type 0 where
    pub pair : IsPair p c
    pub size : producer_capacity p ≡ 256
    pub small : consumer_capacity c ≤ 256

module _ {A I : Type 0} where
  abbrev pub out_of : Option (Cell A I) → ℕ → Option (Producer (Stamped I) Global AnyItems)
  out_of None b = None
  out_of (Some c) b = ring_to c b

  abbrev pub in_of : Option (Cell A I) → ℕ → Option (Consumer (Stamped I) Global AnyItems)
  in_of None a = None
  in_of (Some c) a = ring_from c a

  abbrev pub box_of : Option (Cell A I) → ℕ → Bool
  box_of None b = false
  box_of (Some c) b = has_edge c.post b

  abbrev pub waits_of : Option (Cell A I) → ℕ → List (Stamped I)
  waits_of None b = []
  waits_of (Some c) b = waits c.post b

  abbrev pub journal_of : Option (Cell A I) → List JournalEntry
  journal_of None = []
  journal_of (Some c) = entries_in c.post

  abbrev pub clock_in : Option (Cell A I) → ℕ
  clock_in None = 0
  clock_in (Some c) = clock_of c.post

  -- the two ends of the edge from a to b
  abbrev pub out_end : List (Cell A I) → ℕ → ℕ → Option (Producer (Stamped I) Global AnyItems)
  out_end cells a b = out_of (slice_get cells a) b

  abbrev pub in_end : List (Cell A I) → ℕ → ℕ → Option (Consumer (Stamped I) Global AnyItems)
  in_end cells a b = in_of (slice_get cells b) a

  -- the number that the cell's post has, which should be k
  abbrev pub cell_number : Option (Cell A I) → ℕ → ℕ
  cell_number None k = k
  cell_number (Some c) k = actor_of c.post

  -- the cells have the two ends of a ring for each edge, and no other ends
  pub record Linked (cells : List (Cell A I)) (edges : List (ℕ × ℕ)) : Type 0 where
    pub joined : (a b : ℕ) (p : Producer (Stamped I) Global AnyItems) (c : Consumer (Stamped I) Global AnyItems) → out_end cells a b ≡ Some p
        → in_end cells a b ≡ Some c → IsOneRing p c
    pub outs : (a b : ℕ) → is_some (out_end cells a b) ≡ is_edge edges a b
    pub ins : (a b : ℕ) → is_some (in_end cells a b) ≡ is_edge edges a b
    pub boxes : (a b : ℕ) → box_of (slice_get cells a) b ≡ is_edge edges a b
    pub apart : (a : ℕ) → is_edge edges a a ≡ false
    pub numbers : (k : ℕ) → cell_number (slice_get cells k) k ≡ k

  -- and both ends of each ring were read since anything was last pushed or popped
  pub record IsNet (cells : List (Cell A I)) (edges : List (ℕ × ℕ)) : Type 0 where
    pub linked : Linked cells edges
    pub known : (a b : ℕ) (p : Producer (Stamped I) Global AnyItems) (c : Consumer (Stamped I) Global AnyItems) → out_end cells a b ≡ Some p
        → in_end cells a b ≡ Some c → Known p c

  -- both ends of the edge from a to b are level, if they are there
  abbrev pub LevelAt : List (Cell A I) → ℕ → ℕ → Type 0
  LevelAt cells a b = (p : Producer (Stamped I) Global AnyItems) (c : Consumer (Stamped I) Global AnyItems) → out_end cells a b ≡ Some p
      → in_end cells a b ≡ Some c → Level p c

  -- what the layer above sees
  abbrev pub view_of : List (Cell A I) → List (ℕ × ℕ) → View A I
  view_of cells edges = record {
    actors = map (λ c. c.actor) cells;
    journal = λ k. journal_of (slice_get cells k);
    clock = λ k. clock_in (slice_get cells k);
    edge = λ a b. is_edge edges a b;
    channel = λ a b. ring_known (in_end cells a b) ++ waits_of (slice_get cells a) b;
    in_ring = λ a b. length (ring_known (in_end cells a b));
  }
