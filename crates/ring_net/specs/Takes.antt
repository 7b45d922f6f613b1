-- What the takes of one cell do.
use Rattle.std.specs.Prelude.{ℕ, ◌≡◌, true, ◌≤◌, List, ◌++◌, length, Option, None, slice_index_or}
use Rattle.std.specs.declared.alloc.Global.{Global}
use mathlib.Core.List.{IsPrefix}
use Rattle.rtrb.specs.Ring.{received, known_items, consumer_capacity}
use Rattle.rtrb.specs.declared.consumer.Consumer.{Consumer}
use Rattle.rtrb.specs.declared.AnyItems.{AnyItems}
use Rattle.std.specs.List.{AllByRecursion}
use Rattle.ring_net.specs.declared.entry.Stamped.{Stamped}
use Rattle.ring_net.specs.declared.post.Post.{Post}
use Rattle.ring_net.specs.Deeds.{Deed, Noted, Makes, ClimbsTo, deeds, entries_of, senders, sent_to, taken_from}
use Rattle.ring_net.specs.Posts.{actor_of, clock_of, entries_in, has_edge, waits}
use Rattle.ring_net.specs.Ends.{Emptied}
use Rattle.ring_net.specs.Turns.{TookAll, ActorDid}

module _ {A P I : Type 0} (part : A → P) (makes : Makes P I) (took : A → ℕ → I → List (Deed I) → A → Type 0) where
  -- what was taken from one ring: at least all that was known to be in it, and nothing of any other sender
  pub record TookFrom (from : ℕ) (old : A) (before : Post I) (ring : Consumer (Stamped I) Global AnyItems)
      (new : A) (after : Post I) (ring' : Consumer (Stamped I) Global AnyItems) : Type 0 where
    pub notes : List (Noted I)
    pub all : TookAll part makes took old before notes new after
    pub more : received ring' ≡ received ring ++ taken_from from notes
    pub only : AllByRecursion (λ s. s ≡ from) (senders (deeds notes))
    pub known : consumer_capacity ring ≤ 256 → IsPrefix (known_items ring) (taken_from from notes)
    pub most : length (taken_from from notes) ≤ 256

  -- the same if there is a ring; else nothing
  pub record TookOne (from : ℕ) (old : A) (before : Post I) (ring : Option (Consumer (Stamped I) Global AnyItems))
      (new : A) (after : Post I) (ring' : Option (Consumer (Stamped I) Global AnyItems)) : Type 0 where
    pub notes : List (Noted I)
    pub all : TookAll part makes took old before notes new after
    pub only : AllByRecursion (λ s. s ≡ from) (senders (deeds notes))
    pub emptied : Emptied ring (taken_from from notes) ring'

  -- what was taken from all rings, in ascending order of the sender's number
  pub record TookEach (old : A) (before : Post I) (rings : List (Option (Consumer (Stamped I) Global AnyItems)))
      (new : A) (after : Post I) (rings' : List (Option (Consumer (Stamped I) Global AnyItems))) : Type 0 where
    pub notes : List (Noted I)
    pub all : TookAll part makes took old before notes new after
    pub order : ClimbsTo 0 (senders (deeds notes)) (length rings)
    pub emptied : (a : ℕ) → Emptied (slice_index_or rings a None) (taken_from a notes) (slice_index_or rings' a None)

  -- all that an actor does in a phase, with its post and the rings that lead to it
  pub record Acts (turned : A → List (Deed I) → A → Type 0) (old : A) (before : Post I) (rings : List (Option (Consumer (Stamped I) Global AnyItems)))
      (new : A) (after : Post I) (rings' : List (Option (Consumer (Stamped I) Global AnyItems))) : Type 0 where
    pub notes : List (Noted I)
    pub did : ActorDid part makes took turned (actor_of before) old (clock_of before) notes new (clock_of after)
    pub journal : entries_in after ≡ entries_in before ++ entries_of notes
    pub sent : (b : ℕ) → has_edge before b ≡ true → waits after b ≡ waits before b ++ sent_to b notes
    pub emptied : (a : ℕ) → Emptied (slice_index_or rings a None) (taken_from a notes) (slice_index_or rings' a None)
