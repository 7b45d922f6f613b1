-- What a call writes to a post.
use Rattle.std.specs.Prelude.{ℕ, ◌≡◌, ◌==◌, Bool, true, false, ◌↔◌, List, [], ◌∷◌, ◌++◌, if◌then◌else◌, Option, Some, None, map, is_some, slice_index_or}
use Rattle.std.specs.List.{AllByRecursion}
use Rattle.std.specs.declared.alloc.Global.{Global}
use Rattle.std.specs.declared.collections.VecDeque.{VecDeque}
use Rattle.ring_net.specs.declared.entry.JournalEntry.{JournalEntry}
use Rattle.ring_net.specs.declared.entry.Stamped.{Stamped}
use Rattle.ring_net.specs.declared.post.Post.{Post}
use Rattle.ring_net.specs.Deeds.{Deed, Makes, Replay, IsDeedOf, TakesNone, TakesFirst, Counted, sent_by}

module _ {I : Type 0} where
  -- the number of the actor whose post it is
  abbrev pub actor_of : Post I → ℕ
  actor_of p = p.actor

  -- the last clock
  abbrev pub clock_of : Post I → ℕ
  clock_of p = p.clock

  -- the entries, in order
  abbrev pub entries_in : Post I → List JournalEntry
  entries_in p = p.entries.items

  abbrev pub box_items : Option (VecDeque (Stamped I) Global) → List (Stamped I)
  box_items None = []
  box_items (Some q) = q.items

  -- whether an edge leads to b
  abbrev pub has_edge : Post I → ℕ → Bool
  has_edge p b = is_some (slice_index_or p.boxes.items b None)

  -- what waits for b
  abbrev pub waits : Post I → ℕ → List (Stamped I)
  waits p b = box_items (slice_index_or p.boxes.items b None)

-- the item for this receiver only
abbrev pub for_one : {I : Type 0} → ℕ → Stamped I → ℕ → List (Stamped I)
for_one to x b = if b == to then x ∷ [] else []

-- the same actor and edges: this holds whatever a call answers
pub record SameEdges {I : Type 0} (old new : Post I) : Type 0 where
  pub actor : actor_of new ≡ actor_of old
  pub edges : (b : ℕ) → has_edge new b ≡ has_edge old b

-- The clock is increased, and an entry with it is added.
pub record NotesEntry {I : Type 0} (old : Post I) (entry : JournalEntry) (new : Post I) : Type 0 where
  pub actor : actor_of new ≡ actor_of old
  pub clock : clock_of new ≡ entry.clock
  pub entries : entries_in new ≡ entries_in old ++ entry ∷ []
  pub boxes : new.boxes ≡ old.boxes

-- The item is last in the outbox for its receiver, stamped with the last clock. If no edge leads there, it is dropped.
pub record SendsItem {I : Type 0} (old : Post I) (to : ℕ) (x : I) (new : Post I) : Type 0 where
  pub actor : actor_of new ≡ actor_of old
  pub clock : clock_of new ≡ clock_of old
  pub entries : entries_in new ≡ entries_in old
  pub edges : (b : ℕ) → has_edge new b ≡ has_edge old b
  pub boxes : (b : ℕ) → has_edge old b ≡ true → waits new b ≡ waits old b ++ for_one to (record { stamp = record { 0 = clock_of old }; item = x }) b

-- The entries and outboxes of a post, with these further events. Without an event, what contracts see of it is unchanged.
pub record Wrote {I : Type 0} (old : Post I) (ds : List (Deed I)) (new : Post I) : Type 0 where
  pub actor : actor_of new ≡ actor_of old
  pub own : AllByRecursion (IsDeedOf (actor_of old)) ds
  pub clocks : Counted (clock_of old) ds (clock_of new)
  pub entries : entries_in new ≡ entries_in old ++ map (λ d. d.entry) ds
  pub edges : (b : ℕ) → has_edge new b ≡ has_edge old b
  pub boxes : (b : ℕ) → has_edge old b ≡ true → waits new b ≡ waits old b ++ sent_by b ds

module _ {A P I : Type 0} (part : A → P) (makes : Makes P I) where
  -- An actor's take of an item: the events that it made and wrote, the first of which takes the item.
  pub record TookItem (took_by : A → ℕ → I → List (Deed I) → A → Type 0) (from : ℕ)
      (x : I) (old : A) (before : Post I) (new : A) (after : Post I) : Type 0 where
    pub deeds : List (Deed I)
    pub wrote : Wrote before deeds after
    pub first : TakesFirst from x deeds
    pub replay : Replay makes (actor_of before) (part old) deeds (part new)
    pub took : took_by old from x deeds new

  -- An actor's turn, or what it does at a mark: the events that it made and wrote, none of which takes an item.
  pub record Moved (moves : A → List (Deed I) → A → Type 0) (old : A) (before : Post I) (new : A) (after : Post I) : Type 0 where
    pub deeds : List (Deed I)
    pub wrote : Wrote before deeds after
    pub none : AllByRecursion TakesNone deeds
    pub replay : Replay makes (actor_of before) (part old) deeds (part new)
    pub moved : moves old deeds new

  -- What an actor does at a mark, and whether it made an event.
  pub record Pauses (moves : A → List (Deed I) → A → Type 0) (old : A) (before : Post I) (new : A) (after : Post I) (answer : Bool) : Type 0 where
    pub moved : Moved moves old before new after
    pub none : (answer ≡ false) ↔ (moved.deeds ≡ [])
