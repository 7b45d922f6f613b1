-- What a net did between two moments at which all of it was in one thread, with any number of phases, levellings and calls at a mark between them.
use Rattle.std.specs.Prelude.{ℕ, ◌≡◌, ◌≤◌, ◌<◌, ◌==◌, true, false, List, [], ◌∷◌, ◌++◌, length, map, filter, slice_index_or}
use Rattle.std.specs.List.{AllByRecursion}
use Rattle.ring_net.specs.declared.entry.JournalEntry.{JournalEntry}
use Rattle.ring_net.specs.Deeds.{Noted, Makes, Replay, IsDeedOf, Clocked, deeds, entries_of, sent_to, taken_from}
use Rattle.ring_net.specs.Phases.{View, IsGreatest}
use Rattle.journal_merge.specs.Worlds.{DeedWorld, DeedRun}

-- the events of one actor, in their order
abbrev pub noted_by : {I : Type 0} → ℕ → List (Noted I) → List (Noted I)
noted_by k ns = filter (λ n. n.deed.entry.actor == k) ns

module _ {I : Type 0} where
  -- Up to a levelling at this clock, the clocks of n actors are counted by their first events. It is the greatest of them. The rest of the events
  -- come after it.
  pub record UpToLevel (n : ℕ) (before : ℕ → ℕ) (level : ℕ) (notes rest : ℕ → List (Noted I)) : Type 0 where
    pub first : ℕ → List (Noted I)
    pub after : ℕ → ℕ
    pub split : (k : ℕ) → notes k ≡ first k ++ rest k
    pub clocked : (k : ℕ) → k < n → Clocked (before k) (first k) (after k)
    pub greatest : IsGreatest n after level

  -- The clocks of n actors over their events: up to the first levelling, from there, where each clock is that of the levelling, up to the next one,
  -- and so on.
  abbrev pub ClockedOver : (n : ℕ) (before : ℕ → ℕ) (levels : List ℕ) (notes : ℕ → List (Noted I)) (after : ℕ → ℕ) → Type 0
  ClockedOver n before [] notes after = (k : ℕ) → k < n → Clocked (before k) (notes k) (after k)
  ClockedOver n before (level ∷ levels) notes after =
      (rest : ℕ → List (Noted I)) × UpToLevel n before level notes rest × ClockedOver n (λ k. level) levels rest after

module _ {A P I : Type 0} (part : A → P) where
  -- the parts of the world are the actors, and for each edge the items in flight are those in its channel
  pub record IsWorldOf (v : View A I) (w : DeedWorld P I) : Type 0 where
    pub parts : (k : ℕ) (d : A) → k < length v.actors → w.part k ≡ part (slice_index_or v.actors k d)
    pub channels : (a b : ℕ) → v.edge a b ≡ true → w.channel a b ≡ map (λ x. x.item) (v.channel a b)

module _ {A P I : Type 0} (part : A → P) (makes : Makes P I) where
  -- Each actor is the replay of its events, which were added to its journal; their clocks are exact, with levellings at these clocks in between; and
  -- what a channel held before and was sent is what was taken from it and what it holds, in order.
  pub record Grew (u v : View A I) (levels : List ℕ) (notes : ℕ → List (Noted I)) : Type 0 where
    pub size : length v.actors ≡ length u.actors
    pub replays : (k : ℕ) (d : A) → k < length u.actors
        → Replay makes k (part (slice_index_or u.actors k d)) (deeds (notes k)) (part (slice_index_or v.actors k d))
    pub none : (k : ℕ) → length u.actors ≤ k → notes k ≡ []
    pub own : (k : ℕ) → AllByRecursion (IsDeedOf k) (deeds (notes k))
    pub clocks : ClockedOver (length u.actors) u.clock levels notes v.clock
    pub journals : (k : ℕ) → v.journal k ≡ u.journal k ++ entries_of (notes k)
    pub edges : (a b : ℕ) → v.edge a b ≡ u.edge a b
    pub carries : (a b : ℕ) → u.edge a b ≡ true → u.channel a b ++ sent_to b (notes a) ≡ taken_from a (notes b) ++ v.channel a b
    pub apart : (a b : ℕ) → u.edge a b ≡ false → taken_from a (notes b) ≡ []

  -- A run of events with these entries, from a world of one view to a world of another. Each actor's events are its own, in order, and their clocks
  -- are exact: what an event takes from a channel has as its stamp the clock of the event that sent it. Where no edge leads, the model's channel
  -- grows by what was sent there, which the net drops.
  pub record RunsTo (u : View A I) (w : DeedWorld P I) (levels : List ℕ)
      (notes : ℕ → List (Noted I)) (entries : List JournalEntry) (v : View A I) : Type 0 where
    pub events : List (Noted I)
    pub same : entries_of events ≡ entries
    pub each : (k : ℕ) → noted_by k events ≡ notes k
    pub clocks : ClockedOver (length u.actors) u.clock levels (λ k. noted_by k events) v.clock
    pub stamps : (a b : ℕ) → u.edge a b ≡ true → u.channel a b ++ sent_to b (noted_by a events) ≡ taken_from a (noted_by b events) ++ v.channel a b
    pub last : DeedWorld P I
    pub run : DeedRun makes w (deeds events) last
    pub is : IsWorldOf part v last
    pub dropped : (a b : ℕ) → u.edge a b ≡ false → last.channel a b ≡ w.channel a b ++ map (λ x. x.item) (sent_to b (noted_by a events))
