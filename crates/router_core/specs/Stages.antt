-- The stages of a router's turn, in their order: segments are sent again, rounds pass, grafts begin, prefixes are decided, routers are told, the next
-- router is asked or the source is told for each session that has landed, the sessions are told, and all that may be emitted is emitted.
use Rattle.std.specs.Prelude.{ℕ, ◌≡◌, ◌⊎◌, ◌+◌, nat_lt, if◌then◌else◌, false, List, [], ◌∷◌, Some, None, Option}
use Rattle.std.specs.FinMap as map
use Rattle.ring_net.specs.declared.post.Post.{Post}
use Rattle.tcp_seq.specs.Endpoint.{again_length}
use Rattle.graft_steps.specs.declared.item.Item.{Item}
use Rattle.bgp_session.specs.Running.{RunningSession}
use Rattle.bgp_session.specs.Steps.{MayPass}
use Rattle.graft_model.specs.declared.event.RouterEvent.{RouterEvent}
use Rattle.graft_actors.specs.Emissions.{Tally, reach_of}
use Rattle.router_core.specs.Parts.{router_part, RouterInvariant}
use Rattle.router_core.specs.Places.{place_at}
use Rattle.router_core.specs.Rested.{IsDone}
use Rattle.router_core.specs.Rounds.{DidAsRouter}
use Rattle.router_core.specs.Turned.{AreAt, rounds_on, emits_on, answers_on}
use Rattle.router_core.specs.declared.fields.Fields.{Fields}
use Rattle.router_core.specs.declared.place.Errand.TheVariants.{Leaving, Owing, Asking}
use Rattle.router_core.specs.declared.place.Place.{Place}
use Rattle.router_core.specs.declared.place.Place.TheVariants.{Live, Shadow}

-- ---- how places change

-- A place stays the same, except that its session may change in this way.
abbrev pub PlaceGoes : (RunningSession → RunningSession → Type 0) → Option Place → Option Place → Type 0
PlaceGoes Becomes None new = new ≡ None
PlaceGoes Becomes (Some (Live s errand)) new = (u : RunningSession) × (new ≡ Some (Live u errand)) × Becomes s u
PlaceGoes Becomes (Some (Shadow away)) new = new ≡ Some (Shadow away)

-- A stored graft is refused, and the session stays; or the session leaves in it. All else stays the same.
abbrev pub GraftGoes : Option Place → Option Place → Type 0
GraftGoes None new = new ≡ None
GraftGoes (Some (Live s None)) new = new ≡ Some (Live s None)
GraftGoes (Some (Live s (Some (Leaving ids)))) new = (new ≡ Some (Live s None)) ⊎ (new ≡ Some (Shadow ids))
GraftGoes (Some (Live s (Some (Owing landing)))) new = new ≡ Some (Live s (Some (Owing landing)))
GraftGoes (Some (Live s (Some (Asking landing)))) new = new ≡ Some (Live s (Some (Asking landing)))
GraftGoes (Some (Shadow away)) new = new ≡ Some (Shadow away)

-- The next router is asked about a session that has landed; or its source is told, and it has no errand from then on. All else stays the same.
abbrev pub WordGoes : Option Place → Option Place → Type 0
WordGoes None new = new ≡ None
WordGoes (Some (Live s None)) new = new ≡ Some (Live s None)
WordGoes (Some (Live s (Some (Leaving ids)))) new = new ≡ Some (Live s (Some (Leaving ids)))
WordGoes (Some (Live s (Some (Owing landing)))) new = ((q : ℕ) × (new ≡ Some (Live s (Some (Asking (record landing { next = q }))))))
    ⊎ (new ≡ Some (Live s None))
WordGoes (Some (Live s (Some (Asking landing)))) new = new ≡ Some (Live s (Some (Asking landing)))
WordGoes (Some (Shadow away)) new = new ≡ Some (Shadow away)

-- A session has put more, and the rest of its endpoint stays the same.
pub record PutsMore (s u : RunningSession) : Type 0 where
  pub acked : u.session.end.acked ≡ s.session.end.acked
  pub emitted : u.session.end.emitted ≡ s.session.end.emitted
  pub at_turn : u.acked_at_turn ≡ s.acked_at_turn

abbrev pub IsLevel : RunningSession → RunningSession → Type 0
IsLevel s u = u ≡ record s { acked_at_turn = s.session.end.acked }

-- All that may be emitted is emitted, and no acknowledgement is owed.
abbrev pub EmitsAll : RunningSession → RunningSession → Type 0
EmitsAll s u = u ≡ record s { session = record s.session { end = record s.session.end { emitted = reach_of s.session.end; owed = false } } }

-- the round passed on the session if it may, and no other round did
abbrev pub PassesWhereItMay : (round : ℕ) → (rounds : List ℕ) → RunningSession → RunningSession → Type 0
PassesWhereItMay round rounds s u = PutsMore s u
    × ((MayPass s.session round × (rounds ≡ round ∷ [])) ⊎ ((¬ MayPass s.session round) × (rounds ≡ []) × (u ≡ s)))

-- ---- the tallies

-- whether the first outstanding bytes of a session are sent again
abbrev pub again_at : Option Place → ℕ
again_at None = 0
again_at (Some (Live s errand)) = if nat_lt s.acked_at_turn s.session.end.acked then 0 else (if nat_lt 0 (again_length s.session.end) then 1 else 0)
again_at (Some (Shadow away)) = 0

abbrev pub answer_at : Option Place → ℕ
answer_at None = 0
answer_at (Some (Live s errand)) = if s.session.end.owed then 1 else 0
answer_at (Some (Shadow away)) = 0

abbrev pub with_again : Fields → (ℕ → Tally) → ℕ → Tally
with_again f t p = record (t p) { again = (t p).again + again_at (place_at f.places.places p) }

abbrev pub with_answers : Fields → (ℕ → Tally) → ℕ → Tally
with_answers f t p = record (t p) { answers = (t p).answers + answer_at (place_at f.places.places p) }

-- ---- the stages

pub record SendsAgain (old : Fields) (before : Post (Item RunningSession)) (new : Fields) (after : Post (Item RunningSession)) : Type 0 where
  pub events : List RouterEvent
  pub at : AreAt 7 events
  pub did : (t : ℕ → Tally) → DidAsRouter old before t events new after (with_again old t)
  pub once : (p : ℕ) → emits_on p events ≡ again_at (place_at old.places.places p)
  pub places : (p : ℕ) → PlaceGoes IsLevel (place_at old.places.places p) (place_at new.places.places p)
  pub same : new ≡ record old { places = new.places }
  pub keeps : RouterInvariant new

pub record PassesRounds (old : Fields) (before : Post (Item RunningSession)) (new : Fields) (after : Post (Item RunningSession)) : Type 0 where
  pub events : List RouterEvent
  pub at : AreAt 1 events
  pub did : (t : ℕ → Tally) → DidAsRouter old before t events new after t
  pub places : (p : ℕ) → PlaceGoes (PassesWhereItMay old.turns (rounds_on p events)) (place_at old.places.places p) (place_at new.places.places p)
  pub same : new ≡ record old { places = new.places; rib = new.rib; due_out = new.due_out }
  pub keeps : RouterInvariant new

pub record BeginsGrafts (old : Fields) (before : Post (Item RunningSession)) (new : Fields) (after : Post (Item RunningSession)) : Type 0 where
  pub events : List RouterEvent
  pub at : AreAt 2 events
  pub did : (t : ℕ → Tally) → DidAsRouter old before t events new after t
  pub places : (p : ℕ) → GraftGoes (place_at old.places.places p) (place_at new.places.places p)
  pub same : new ≡ record old { places = new.places; due_out = new.due_out }
  pub keeps : RouterInvariant new

pub record DecidesAll (old : Fields) (before : Post (Item RunningSession)) (new : Fields) (after : Post (Item RunningSession)) : Type 0 where
  pub events : List RouterEvent
  pub at : AreAt 3 events
  pub did : (t : ℕ → Tally) → DidAsRouter old before t events new after t
  pub clean : new.rib.dirty ≡ map.empty
  pub same : new ≡ record old { rib = new.rib; due_in = new.due_in; due_out = new.due_out }
  pub keeps : RouterInvariant new

pub record TellsAll (old : Fields) (before : Post (Item RunningSession)) (new : Fields) (after : Post (Item RunningSession)) : Type 0 where
  pub events : List RouterEvent
  pub at : AreAt 4 events
  pub did : (t : ℕ → Tally) → DidAsRouter old before t events new after t
  pub told : (q : ℕ) → (router_part new).due_in q ≡ map.empty
  pub same : new ≡ record old { due_in = new.due_in }
  pub keeps : RouterInvariant new

pub record ConfirmsAll (old : Fields) (before : Post (Item RunningSession)) (new : Fields) (after : Post (Item RunningSession)) : Type 0 where
  pub events : List RouterEvent
  pub at : AreAt 5 events
  pub did : (t : ℕ → Tally) → DidAsRouter old before t events new after t
  pub places : (p : ℕ) → WordGoes (place_at old.places.places p) (place_at new.places.places p)
  pub same : new ≡ record old { places = new.places }
  pub keeps : RouterInvariant new

-- On each session all that is to be told is put, or its next UPDATE has no room or can't be written.
pub record PutsAll (old : Fields) (before : Post (Item RunningSession)) (new : Fields) (after : Post (Item RunningSession)) : Type 0 where
  pub events : List RouterEvent
  pub at : AreAt 6 events
  pub did : (t : ℕ → Tally) → DidAsRouter old before t events new after t
  pub places : (p : ℕ) → PlaceGoes PutsMore (place_at old.places.places p) (place_at new.places.places p)
  pub done : (p : ℕ) → IsDone old.known.setup old.number.0 (router_part new) p ((router_part new).places p)
  pub same : new ≡ record old { places = new.places; due_out = new.due_out }
  pub keeps : RouterInvariant new

pub record EmitsEverywhere (old : Fields) (before : Post (Item RunningSession)) (new : Fields) (after : Post (Item RunningSession)) : Type 0 where
  pub events : List RouterEvent
  pub at : AreAt 7 events
  pub did : (t : ℕ → Tally) → DidAsRouter old before t events new after (with_answers old t)
  pub once : (p : ℕ) → answers_on p events ≡ answer_at (place_at old.places.places p)
  pub places : (p : ℕ) → PlaceGoes EmitsAll (place_at old.places.places p) (place_at new.places.places p)
  pub same : new ≡ record old { places = new.places }
  pub keeps : RouterInvariant new
