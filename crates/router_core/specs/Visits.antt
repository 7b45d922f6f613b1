-- A stage that goes over the places: what it does at one place, and what it has done after the first n places.
use Rattle.std.specs.Prelude.{ℕ, ◌≡◌, ◌≢◌, ◌<◌, ◌≤◌, ◌+◌, nat_lt, if◌then◌else◌, List, [], false, Option, Some, None}
use Rattle.std.specs.FinMap as map
use Rattle.std.proofs.Common.{refl, ap, ◌∙◌}
use Rattle.ring_net.specs.declared.post.Post.{Post}
use Rattle.graft_steps.specs.declared.item.Item.{Item}
use Rattle.bgp_session.specs.Running.{RunningSession}
use Rattle.rib_stages.specs.Values.{table_at}
use Rattle.graft_model.specs.Points.{at}
use Rattle.graft_model.specs.declared.event.RouterEvent.{RouterEvent}
use Rattle.graft_actors.specs.Emissions.{Tally, reach_of}
use Rattle.router_core.specs.Parts.{RouterInvariant}
use Rattle.router_core.specs.Places.{place_at}
use Rattle.router_core.specs.Rounds.{DidAsRouter}
use Rattle.router_core.specs.Stages.{PlaceGoes, GraftGoes, WordGoes, IsLevel, EmitsAll, PassesWhereItMay, again_at, answer_at}
use Rattle.router_core.specs.Turned.{AreAt, rounds_on, emits_on, answers_on}
use Rattle.router_core.specs.declared.fields.Fields.{Fields}
use Rattle.router_core.specs.declared.place.Place.{Place}
use Rattle.router_core.specs.declared.place.Place.TheVariants.{Live, Shadow}

-- what events are on one peering: the rounds that pass on its session, how many segments are emitted, and how many of these have no bytes
pub record OnPeering : Type 0 where
  pub rounds : List ℕ
  pub emits : ℕ
  pub answers : ℕ

abbrev pub events_on : ℕ → List RouterEvent → OnPeering
events_on p events = record { rounds = rounds_on p events; emits = emits_on p events; answers = answers_on p events }

abbrev pub none_on : OnPeering
none_on = record { rounds = []; emits = 0; answers = 0 }

-- ---- what stays

-- what of a router stays while a stage goes from place to place, and what the stage needs all the while
pub record Kept : Type 1 where
  pub Same : Fields → Fields → Type 0
  pub Needs : Fields → Type 0
  pub first : (f : Fields) → Same f f
  pub twice : (a b c : Fields) → Same a b → Same b c → Same a c
  pub setup : (a b : Fields) → Same a b → b.known.setup ≡ a.known.setup
  pub still : (a b : Fields) → Same a b → Needs a → Needs b

-- only the places change
abbrev pub SameButPlaces : Fields → Fields → Type 0
SameButPlaces old new = new ≡ record old { places = new.places }

pub places_twice : (a b c : Fields) → SameButPlaces a b → SameButPlaces b c → SameButPlaces a c
places_twice a b c x y = y ∙ ap (λ (f : Fields). let g : Fields = record f { places = c.places } in g) x

abbrev pub SameButSessions : Fields → Fields → Type 0
SameButSessions old new = new ≡ record old { places = new.places; rib = new.rib; due_out = new.due_out }

pub sessions_twice : (a b c : Fields) → SameButSessions a b → SameButSessions b c → SameButSessions a c
sessions_twice a b c x y = y ∙ ap (λ (f : Fields). let g : Fields = record f { places = c.places; rib = c.rib; due_out = c.due_out } in g) x

abbrev pub SameButLeaving : Fields → Fields → Type 0
SameButLeaving old new = new ≡ record old { places = new.places; due_out = new.due_out }

pub leaving_twice : (a b c : Fields) → SameButLeaving a b → SameButLeaving b c → SameButLeaving a c
leaving_twice a b c x y = y ∙ ap (λ (f : Fields). let g : Fields = record f { places = c.places; due_out = c.due_out } in g) x

-- no prefix is dirty, and nothing is due to another router
pub record IsQuiet (f : Fields) : Type 0 where
  pub clean : f.rib.dirty ≡ map.empty
  pub told : (q : ℕ) → table_at f.due_in q ≡ map.empty

pub quiet_still : (a b : Fields) → SameButPlaces a b → IsQuiet a → IsQuiet b
quiet_still a b same quiet = record {
  clean = ap (λ (f : Fields). f.rib.dirty) same ∙ quiet.clean;
  told = λ q. ap (λ (f : Fields). table_at f.due_in q) same ∙ quiet.told q;
}

-- nothing else is needed
abbrev pub keeping : (Same : Fields → Fields → Type 0) → ((f : Fields) → Same f f) → ((a b c : Fields) → Same a b → Same b c → Same a c)
    → ((a b : Fields) → Same a b → b.known.setup ≡ a.known.setup) → Kept
keeping Same first twice setup = record { Same = Same; Needs = λ f. Unit {0}; first = first; twice = twice; setup = setup; still = λ a b same needs. needs }

abbrev pub but_places : Kept
but_places = keeping SameButPlaces (λ f. refl) places_twice (λ a b same. ap (λ (f : Fields). f.known.setup) same)

abbrev pub but_places_quietly : Kept
but_places_quietly = record but_places { Needs = IsQuiet; still = quiet_still }

abbrev pub but_sessions : Kept
but_sessions = keeping SameButSessions (λ f. refl) sessions_twice (λ a b same. ap (λ (f : Fields). f.known.setup) same)

abbrev pub but_leaving : Kept
but_leaving = keeping SameButLeaving (λ f. refl) leaving_twice (λ a b same. ap (λ (f : Fields). f.known.setup) same)

-- ---- what a stage does

-- the number of a stage, how a place changes with these events on it, what is counted there, and what else of the router stays
pub record Stage : Type 1 where
  pub number : ℕ
  pub Goes : OnPeering → Option Place → Option Place → Type 0
  pub count : Option Place → Tally → Tally
  pub kept : Kept

-- The stage handles one place.
pub record Visits (stage : Stage) (p : ℕ) (old : Fields) (before : Post (Item RunningSession))
    (new : Fields) (after : Post (Item RunningSession)) : Type 0 where
  pub events : List RouterEvent
  pub did : (t : ℕ → Tally) → DidAsRouter old before t events new after (at t p (stage.count (place_at old.places.places p) (t p)))
  pub at : AreAt stage.number events
  pub goes : stage.Goes (events_on p events) (place_at old.places.places p) (place_at new.places.places p)
  pub others : (q : ℕ) → q ≢ p → (place_at new.places.places q ≡ place_at old.places.places q) × (events_on q events ≡ none_on)
  pub same : stage.kept.Same old new
  pub keeps : RouterInvariant new

-- The stage has handled the first n places.
pub record Visited (stage : Stage) (n : ℕ) (old : Fields) (before : Post (Item RunningSession))
    (new : Fields) (after : Post (Item RunningSession)) : Type 0 where
  pub events : List RouterEvent
  pub did : (t : ℕ → Tally) → DidAsRouter old before t events new after (λ p. if nat_lt p n then stage.count (place_at old.places.places p) (t p) else t p)
  pub at : AreAt stage.number events
  pub done : (p : ℕ) → p < n → stage.Goes (events_on p events) (place_at old.places.places p) (place_at new.places.places p)
  pub left : (p : ℕ) → n ≤ p → (place_at new.places.places p ≡ place_at old.places.places p) × (events_on p events ≡ none_on)
  pub same : stage.kept.Same old new
  pub keeps : RouterInvariant new

-- New slices were emitted.
abbrev pub SlicesOut : RunningSession → RunningSession → Type 0
SlicesOut s u = u ≡ record s { session = record s.session { end = record s.session.end { emitted = u.session.end.emitted } } }

-- no new slice of the session at a place is left
abbrev pub AllNewOut : Option Place → Type 0
AllNewOut None = Unit {0}
AllNewOut (Some (Live s errand)) = s.session.end.emitted ≡ reach_of s.session.end
AllNewOut (Some (Shadow away)) = Unit {0}

-- All that may be emitted is emitted.
abbrev pub EmitsNew : RunningSession → RunningSession → Type 0
EmitsNew s u = u ≡ record s { session = record s.session { end = record s.session.end { emitted = reach_of s.session.end } } }

-- No acknowledgement is owed.
abbrev pub Answers : RunningSession → RunningSession → Type 0
Answers s u = u ≡ record s { session = record s.session { end = record s.session.end { owed = false } } }

-- ---- the stages

abbrev pub sending_again : Stage
sending_again = record {
  number = 7;
  Goes = λ on old new. (on.emits ≡ again_at old) × PlaceGoes IsLevel old new;
  count = λ place t. record t { again = t.again + again_at place };
  kept = but_places;
}

abbrev pub passing_rounds : ℕ → Stage
passing_rounds round = record {
  number = 1;
  Goes = λ on old new. PlaceGoes (PassesWhereItMay round on.rounds) old new;
  count = λ place t. t;
  kept = but_sessions;
}

abbrev pub beginning_grafts : Stage
beginning_grafts = record {
  number = 2;
  Goes = λ on old new. GraftGoes old new;
  count = λ place t. t;
  kept = but_leaving;
}

abbrev pub confirming : Stage
confirming = record {
  number = 5;
  Goes = λ on old new. WordGoes old new;
  count = λ place t. t;
  kept = but_places_quietly;
}

-- emits some new slices, which no tally counts
abbrev pub slicing : Stage
slicing = record {
  number = 7;
  Goes = λ on old new. (on.answers ≡ 0) × PlaceGoes SlicesOut old new;
  count = λ place t. t;
  kept = but_places;
}

-- emits all new slices
abbrev pub sending_new : Stage
sending_new = record {
  number = 7;
  Goes = λ on old new. (on.answers ≡ 0) × PlaceGoes EmitsNew old new;
  count = λ place t. t;
  kept = but_places;
}

-- emits the owed acknowledgement
abbrev pub answering : Stage
answering = record {
  number = 7;
  Goes = λ on old new. (on.answers ≡ answer_at old) × PlaceGoes Answers old new;
  count = λ place t. record t { answers = t.answers + answer_at place };
  kept = but_places;
}

-- emits all new slices and the owed acknowledgement
abbrev pub emitting : Stage
emitting = record {
  number = 7;
  Goes = λ on old new. (on.answers ≡ answer_at old) × PlaceGoes EmitsAll old new;
  count = λ place t. record t { answers = t.answers + answer_at place };
  kept = but_places;
}
