-- The ends of the rings of one cell: there is one for each edge.
use Rattle.std.specs.Prelude.{ℕ, ◌≡◌, ◌≤◌, ◌<◌, ◌+◌, List, [], ◌++◌, length, Option, Some, None, is_some}
use Rattle.std.specs.declared.alloc.Global.{Global}
use Rattle.std.specs.declared.collections.VecDeque.{VecDeque}
use mathlib.Core.List.{IsPrefix}
use Rattle.rtrb.specs.Ring.{sent, received, known_free, known_items, SameProducer, SameConsumer, consumer_capacity}
use Rattle.rtrb.specs.declared.producer.Producer.{Producer}
use Rattle.rtrb.specs.declared.consumer.Consumer.{Consumer}
use Rattle.rtrb.specs.declared.AnyItems.{AnyItems}
use Rattle.ring_net.specs.declared.entry.Stamped.{Stamped}
use Rattle.ring_net.specs.Posts.{box_items}

module _ {T : Type 0} where
  -- what was put into the ring, and how many slots are known to be free
  abbrev pub ring_sent : Option (Producer T Global AnyItems) → List T
  ring_sent None = []
  ring_sent (Some p) = sent p

  abbrev pub ring_free : Option (Producer T Global AnyItems) → ℕ
  ring_free None = 0
  ring_free (Some p) = known_free p

  -- what came out of the ring, and what is known to be in it
  abbrev pub ring_received : Option (Consumer T Global AnyItems) → List T
  ring_received None = []
  ring_received (Some c) = received c

  abbrev pub ring_known : Option (Consumer T Global AnyItems) → List T
  ring_known None = []
  ring_known (Some c) = known_items c

  -- the same end, or none
  abbrev pub SameOut : Option (Producer T Global AnyItems) → Option (Producer T Global AnyItems) → Type 0
  SameOut None None = Unit {0}
  SameOut None (Some q) = ⊥
  SameOut (Some p) None = ⊥
  SameOut (Some p) (Some q) = SameProducer p q

  abbrev pub SameIn : Option (Consumer T Global AnyItems) → Option (Consumer T Global AnyItems) → Type 0
  SameIn None None = Unit {0}
  SameIn None (Some q) = ⊥
  SameIn (Some p) None = ⊥
  SameIn (Some p) (Some q) = SameConsumer p q

  -- a ring holds at most 256 items
  abbrev pub IsSmall : Option (Consumer T Global AnyItems) → Type 0
  IsSmall None = Unit {0}
  IsSmall (Some c) = consumer_capacity c ≤ 256

-- Items moved from the outbox into the ring, in order. If some are left, at least the slots that were known to be free were filled.
pub record Flushed {I : Type 0} (ring : Option (Producer (Stamped I) Global AnyItems)) (outbox : Option (VecDeque (Stamped I) Global))
    (ring' : Option (Producer (Stamped I) Global AnyItems)) (outbox' : Option (VecDeque (Stamped I) Global)) : Type 0 where
  pub same : SameOut ring ring'
  pub edge : is_some outbox' ≡ is_some outbox
  pub said : ring_sent ring' ++ box_items outbox' ≡ ring_sent ring ++ box_items outbox
  pub pushes : 0 < length (box_items outbox') → length (ring_sent ring) + ring_free ring ≤ length (ring_sent ring')

-- These items were taken out of the ring, including all that were known to be in it.
pub record Emptied {I : Type 0} (ring : Option (Consumer (Stamped I) Global AnyItems))
    (items : List (Stamped I)) (ring' : Option (Consumer (Stamped I) Global AnyItems)) : Type 0 where
  pub same : SameIn ring ring'
  pub received : ring_received ring' ≡ ring_received ring ++ items
  pub known : IsSmall ring → IsPrefix (ring_known ring) items
  pub most : length items ≤ 256
