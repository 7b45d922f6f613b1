-- What an actor did: its events, with what each took and sent.
use Rattle.std.specs.Prelude.{ℕ, ◌≡◌, ◌<◌, ◌≤◌, ◌+◌, max, List, [], ◌∷◌, ◌==◌, if◌then◌else◌, Option, Some, None, map, flat_map}
use Rattle.std.specs.List.{AllByRecursion}
use Rattle.ring_net.specs.declared.entry.JournalEntry.{JournalEntry}
use Rattle.ring_net.specs.declared.entry.Stamped.{Stamped}

-- One event: its entry, the item that it took with its sender, and the items that it sent with their receivers.
pub record Deed (I : Type 0) : Type 0 where
  pub entry : JournalEntry
  pub taken : Option (ℕ × I)
  pub sent : List (ℕ × I)

-- An event, with the stamp of what it took.
pub record Noted (I : Type 0) : Type 0 where
  pub deed : Deed I
  pub stamp : ℕ

-- The events that an actor of this number may make, on parts of type P: the part before, the entry, what it takes, what it sends, the part after.
abbrev pub Makes : Type 0 → Type 0 → Type 1
Makes P I = (actor : ℕ) → P → JournalEntry → Option (ℕ × I) → List (ℕ × I) → P → Type 0

-- What the events of an actor make of its part, one after another.
abbrev pub Replay : {P I : Type 0} (makes : Makes P I) → ℕ → P → List (Deed I) → P → Type 0
Replay makes a p [] q = q ≡ p
Replay {P = P} makes a p (d ∷ ds) q = (m : P) × makes a p d.entry d.taken d.sent m × Replay makes a m ds q

module _ {I : Type 0} where
  -- the items for b, in order
  abbrev pub items_for : ℕ → List (ℕ × I) → List I
  items_for b [] = []
  items_for b (x ∷ xs) = if x.0 == b then x.1 ∷ items_for b xs else items_for b xs

  -- these items, all with one stamp
  abbrev pub stamped : ℕ → List I → List (Stamped I)
  stamped c xs = map (λ x. record { stamp = record { 0 = c }; item = x }) xs

  -- the item that was taken, if it was sent by a
  abbrev pub from_option : ℕ → ℕ → Option (ℕ × I) → List (Stamped I)
  from_option a s None = []
  from_option a s (Some t) = if t.0 == a then record { stamp = record { 0 = s }; item = t.1 } ∷ [] else []

  -- the sender of the item that was taken
  abbrev pub item_sender : Option (ℕ × I) → List ℕ
  item_sender None = []
  item_sender (Some t) = t.0 ∷ []

  abbrev pub senders : List (Deed I) → List ℕ
  senders ds = flat_map (λ d. item_sender d.taken) ds

  abbrev pub deeds : List (Noted I) → List (Deed I)
  deeds ns = map (λ n. n.deed) ns

  -- these events, each with this stamp
  abbrev pub noted : ℕ → List (Deed I) → List (Noted I)
  noted s ds = map (λ d. record { deed = d; stamp = s }) ds

  abbrev pub entries_of : List (Noted I) → List JournalEntry
  entries_of ns = map (λ n. n.deed.entry) ns

  -- what one event puts into the channel to b
  abbrev pub puts_by : ℕ → Deed I → List (Stamped I)
  puts_by b d = stamped d.entry.clock (items_for b d.sent)

  abbrev pub puts : ℕ → Noted I → List (Stamped I)
  puts b n = puts_by b n.deed

  -- what one event takes from the channel from a
  abbrev pub gets : ℕ → Noted I → List (Stamped I)
  gets a n = from_option a n.stamp n.deed.taken

  -- the same for all events of one actor
  abbrev pub sent_by : ℕ → List (Deed I) → List (Stamped I)
  sent_by b ds = flat_map (puts_by b) ds

  abbrev pub sent_to : ℕ → List (Noted I) → List (Stamped I)
  sent_to b ns = flat_map (puts b) ns

  abbrev pub taken_from : ℕ → List (Noted I) → List (Stamped I)
  taken_from a ns = flat_map (gets a) ns

  -- the greater of this clock and this stamp, if an item with the stamp is taken; else this clock
  abbrev pub met : ℕ → ℕ → Option (ℕ × I) → ℕ
  met c stamp None = c
  met c stamp (Some x) = max c stamp

  -- The clock of each event is one more than the greater of the clock before it and the stamp of what it takes. The last clock is d.
  abbrev pub Clocked : ℕ → List (Noted I) → ℕ → Type 0
  Clocked c [] d = d ≡ c
  Clocked c (n ∷ ns) d = (n.deed.entry.clock ≡ met c n.stamp n.deed.taken + 1) × Clocked n.deed.entry.clock ns d

  -- what an event takes has a lower stamp than the event's clock
  abbrev pub IsLater : Noted I → Type 0
  IsLater n = (x : ℕ × I) → n.deed.taken ≡ Some x → n.stamp < n.deed.entry.clock

  abbrev pub IsDeedOf : ℕ → Deed I → Type 0
  IsDeedOf a d = d.entry.actor ≡ a

  abbrev pub TakesNone : Deed I → Type 0
  TakesNone d = d.taken ≡ None

  -- the first event takes the item, and no other event takes one
  abbrev pub TakesFirst : ℕ → I → List (Deed I) → Type 0
  TakesFirst from x [] = ⊥
  TakesFirst from x (d ∷ ds) = (d.taken ≡ Some (from, x)) × AllByRecursion TakesNone ds

  -- the clocks of the events increase by one each time
  abbrev pub Counted : ℕ → List (Deed I) → ℕ → Type 0
  Counted c [] d = d ≡ c
  Counted c (e ∷ es) d = (e.entry.clock ≡ c + 1) × Counted (c + 1) es d

  -- the clocks of the events ascend
  abbrev pub Rising : ℕ → List (Deed I) → ℕ → Type 0
  Rising c [] d = c ≤ d
  Rising c (e ∷ es) d = (c < e.entry.clock) × Rising e.entry.clock es d

-- exact clocks ascend, and each is above the stamp of what its event takes
abbrev pub ClockedRise : Type 0 → Type 0
ClockedRise I = (c d : ℕ) (notes : List (Noted I)) → Clocked c notes d → Rising c (deeds notes) d × AllByRecursion IsLater notes

-- none of the numbers is below the one before it, and none is below this one
abbrev pub Climbs : ℕ → List ℕ → Type 0
Climbs low [] = Unit {0}
Climbs low (x ∷ xs) = (low ≤ x) × Climbs x xs

-- the same, and none is above high
abbrev pub ClimbsTo : ℕ → List ℕ → ℕ → Type 0
ClimbsTo low [] high = low ≤ high
ClimbsTo low (x ∷ xs) high = (low ≤ x) × ClimbsTo x xs high
