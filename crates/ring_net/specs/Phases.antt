-- What the layer above sees of a net between two phases, and what a phase, a levelling and a call at a mark do to it.
use Rattle.std.specs.Prelude.{ℕ, ◌≡◌, ◌≢◌, ◌≤◌, ◌<◌, ◌+◌, ◌==◌, ◌&&◌, Bool, true, false, List, [], ◌∷◌}
use Rattle.std.specs.Prelude.{◌++◌, length, min, sum, ◌-◌, ◌^◌, map, ◌↔◌, slice_index_or}
use Rattle.std.specs.List.{AllByRecursion, list_any}
use Rattle.ring_net.specs.declared.entry.JournalEntry.{JournalEntry}
use Rattle.ring_net.specs.declared.entry.Stamped.{Stamped}
use Rattle.ring_net.specs.Deeds.{Deed, Noted, Makes, Replay, IsDeedOf, TakesNone, Counted, entries_of, sent_by, sent_to, taken_from}
use Rattle.ring_net.specs.Turns.{ActorDid}
use Rattle.ring_net.specs.Journals.{IsJournal}

-- whether an edge leads from a to b
abbrev pub is_edge : List (ℕ × ℕ) → ℕ → ℕ → Bool
is_edge edges a b = list_any (λ e. e.0 == a && e.1 == b) edges

-- A net between two phases. A channel is what the ring holds, followed by what waits in the outbox. `in_ring` is the number of items that the ring
-- holds.
pub record View (A I : Type 0) : Type 0 where
  pub actors : List A
  pub journal : ℕ → List JournalEntry
  pub clock : ℕ → ℕ
  pub edge : ℕ → ℕ → Bool
  pub channel : ℕ → ℕ → List (Stamped I)
  pub in_ring : ℕ → ℕ → ℕ

-- a net of these actors and edges in which nothing has happened
pub record IsNewNet {A I : Type 0} (actors : List A) (edges : List (ℕ × ℕ)) (v : View A I) : Type 0 where
  pub all : v.actors ≡ actors
  pub journals : (k : ℕ) → v.journal k ≡ []
  pub clocks : (k : ℕ) → v.clock k ≡ 0
  pub edge : (a b : ℕ) → v.edge a b ≡ is_edge edges a b
  pub channels : (a b : ℕ) → v.channel a b ≡ []
  pub rings : (a b : ℕ) → v.in_ring a b ≡ 0

-- one more mark: the length of each journal
pub record Marked {A I : Type 0} (v : View A I) (old new : List (List ℕ)) : Type 0 where
  pub mark : List ℕ
  pub marks : new ≡ old ++ mark ∷ []
  pub size : length mark ≡ length v.actors
  pub lengths : (k : ℕ) → k < length v.actors → slice_index_or mark k 0 ≡ length (v.journal k)

-- the number of entries in all journals, where the count stops at 2^64 - 1
pub record CountsAll {A I : Type 0} (v : View A I) (count : ℕ) : Type 0 where
  pub each : List ℕ
  pub size : length each ≡ length v.actors
  pub lengths : (k : ℕ) → k < length v.actors → slice_index_or each k 0 ≡ length (v.journal k)
  pub total : count ≡ min (sum each) (2 ^ 64 - 1)

-- each actor has a journal, with no clock above the actor's
pub record InOrder {A I : Type 0} (v : View A I) : Type 0 where
  pub journals : (k : ℕ) → IsJournal k (v.journal k)
  pub none : (k : ℕ) → length v.actors ≤ k → v.journal k ≡ []
  pub clocks : (k : ℕ) → k < length v.actors → AllByRecursion (λ e. e.clock ≤ v.clock k) (v.journal k)

-- each clock has this value
abbrev pub AllAt : {A I : Type 0} → View A I → ℕ → Type 0
AllAt v c = (k : ℕ) → k < length v.actors → v.clock k ≡ c

-- none of the first n clocks is above this one, and one of them is this one
pub record IsGreatest (n : ℕ) (clock : ℕ → ℕ) (c : ℕ) : Type 0 where
  pub bound : (k : ℕ) → k < n → clock k ≤ c
  pub here : ℕ
  pub within : here < n
  pub is : clock here ≡ c

-- nothing but the clocks changed
pub record OnlyClocks {A I : Type 0} (old new : View A I) : Type 0 where
  pub actors : new.actors ≡ old.actors
  pub journals : (k : ℕ) → new.journal k ≡ old.journal k
  pub edges : (a b : ℕ) → new.edge a b ≡ old.edge a b
  pub channels : (a b : ℕ) → new.channel a b ≡ old.channel a b
  pub rings : (a b : ℕ) → new.in_ring a b ≡ old.in_ring a b

-- every clock is set to the greatest one
pub record Levelled {A I : Type 0} (old new : View A I) : Type 0 where
  pub only : OnlyClocks old new
  pub clock : ℕ
  pub greatest : IsGreatest (length old.actors) old.clock clock
  pub level : AllAt new clock

module _ {A P I : Type 0} (part : A → P) (makes : Makes P I) where
  -- One phase: what each actor did, what was added to each journal, what each channel carried, and how much of it was taken and pushed.
  pub record NetPhase (took : A → ℕ → I → List (Deed I) → A → Type 0) (turned : A → List (Deed I) → A → Type 0) (old new : View A I) : Type 0 where
    pub notes : ℕ → List (Noted I)
    pub size : length new.actors ≡ length old.actors
    pub actors : (k : ℕ) (d : A) → k < length old.actors
        → ActorDid part makes took turned k (slice_index_or old.actors k d) (old.clock k) (notes k) (slice_index_or new.actors k d) (new.clock k)
    pub none : (k : ℕ) → length old.actors ≤ k → notes k ≡ []
    pub journals : (k : ℕ) → new.journal k ≡ old.journal k ++ entries_of (notes k)
    pub edges : (a b : ℕ) → new.edge a b ≡ old.edge a b
    pub carries : (a b : ℕ) → old.edge a b ≡ true → old.channel a b ++ sent_to b (notes a) ≡ taken_from a (notes b) ++ new.channel a b
    pub apart : (a b : ℕ) → old.edge a b ≡ false → taken_from a (notes b) ≡ []
    pub known : (a b : ℕ) → old.in_ring a b ≤ length (taken_from a (notes b))
    pub pushed : (a b : ℕ) → min 256 (length (old.channel a b)) ≤ length (taken_from a (notes b)) + new.in_ring a b

  -- What the actor k did at a mark, from a levelling at the greatest clock to a levelling at its own last clock.
  pub record Between (pauses : A → List (Deed I) → A → Type 0) (k : ℕ) (old new : View A I) (result : Bool) : Type 0 where
    pub deeds : List (Deed I)
    pub from : ℕ
    pub to : ℕ
    pub greatest : IsGreatest (length old.actors) old.clock from
    pub level : AllAt new to
    pub counted : Counted from deeds to
    pub own : AllByRecursion (IsDeedOf k) deeds
    pub none : AllByRecursion TakesNone deeds
    pub answer : (result ≡ false) ↔ (deeds ≡ [])
    pub size : length new.actors ≡ length old.actors
    pub paused : (d : A) → pauses (slice_index_or old.actors k d) deeds (slice_index_or new.actors k d)
    pub replay : (d : A) → Replay makes k (part (slice_index_or old.actors k d)) deeds (part (slice_index_or new.actors k d))
    pub others : (j : ℕ) (d : A) → j ≢ k → slice_index_or new.actors j d ≡ slice_index_or old.actors j d
    pub journal : new.journal k ≡ old.journal k ++ map (λ d. d.entry) deeds
    pub journals : (j : ℕ) → j ≢ k → new.journal j ≡ old.journal j
    pub edges : (a b : ℕ) → new.edge a b ≡ old.edge a b
    pub channel : (b : ℕ) → old.edge k b ≡ true → new.channel k b ≡ old.channel k b ++ sent_by b deeds
    pub channels : (a b : ℕ) → a ≢ k → new.channel a b ≡ old.channel a b
    pub rings : (a b : ℕ) → new.in_ring a b ≡ old.in_ring a b

  -- In two phases, with any levellings and calls at a mark between them, at least the lesser of 256 and the number of items that a channel held
  -- before them is taken from it.
  abbrev pub DrainsInTwo : (took : A → ℕ → I → List (Deed I) → A → Type 0) (turned : A → List (Deed I) → A → Type 0) → Type 0
  DrainsInTwo took turned = (u v s t : View A I) (first : NetPhase took turned u v) (second : NetPhase took turned s t)
      → ((a b : ℕ) → s.in_ring a b ≡ v.in_ring a b)
      → (a b : ℕ) → min 256 (length (u.channel a b)) ≤ length (taken_from a (first.notes b)) + length (taken_from a (second.notes b))
