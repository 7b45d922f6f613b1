-- What sessions take in and read at their places, what is due then, and the invariant that a router keeps meanwhile.
use Rattle.std.specs.Prelude.{ℕ, ◌≡◌, ◌≢◌, ◌<◌, ◌^◌, Bool, true, false, List, [], ◌∷◌, length, Option, Some, None}
use Rattle.std.specs.FinMap as map
use Rattle.ring_net.specs.declared.post.Post.{Post}
use Rattle.tcp_end.specs.declared.arrival.Arrival.{Arrival}
use Rattle.tcp_seq.specs.Endpoint.{IsInStreams}
use Rattle.tcp_seq.specs.declared.segment.Segment.{Segment}
use Rattle.tcp_seq.specs.declared.segment.Way.TheVariants.{Home}
use Rattle.session_value.specs.declared.config.SessionConfig.{SessionConfig}
use Rattle.session_value.specs.Sessions.{unread}
use Rattle.session_value.specs.Sets.{Prefixes}
use Rattle.rib_stages.specs.Values.{rib_of, table_at}
use Rattle.bgp_session.specs.Fronts.{CantRead}
use Rattle.bgp_session.specs.Running.{RunningSession}
use Rattle.bgp_session.specs.Steps.{SegmentArrives, ReadsFrameIfAny, received_as}
use Rattle.bgp_session.specs.declared.answers.ReadStep.{ReadStep}
use Rattle.graft_steps.specs.declared.item.Item.{Item}
use Rattle.graft_steps.specs.Landings.{Landing}
use Rattle.session_places.specs.Places.{with_place}
use Rattle.router_core.specs.declared.place.Errand.{Errand}
use Rattle.router_core.specs.declared.place.Errand.TheVariants.{Owing}
use Rattle.graft_model.specs.declared.event.RouterEvent.{RouterEvent}
use Rattle.graft_model.specs.declared.event.RouterEvent.TheVariants.{Got}
use Rattle.graft_actors.specs.Emissions.{Tally}
use Rattle.router_tables.specs.Dues.{IsDueAgain}
use Rattle.router_tables.specs.Entering.{EntersAll, entry_here}
use Rattle.router_tables.specs.Reads.{DueBy, prefixes_in}
use Rattle.router_core.specs.Parts.{IsDueWhileUp, IsErrandOf, RouterInvariant, KeepsAt, KeepsWith}
use Rattle.router_tables.specs.Owned.{IsOfPeering}
use Rattle.router_core.specs.Places.{RunsAt, place_at}
use Rattle.router_core.specs.Rounds.{DidAsRouter}
use Rattle.router_core.specs.Sending.{AtPlace}
use Rattle.router_core.specs.Turned.{AreAt}
use Rattle.router_core.specs.Takes.{Stays}
use Rattle.router_core.specs.declared.fields.Fields.{Fields}
use Rattle.router_core.specs.declared.place.Place.{Place}
use Rattle.router_core.specs.declared.place.Place.TheVariants.{Live, Shadow}

-- ---- at a place

-- a segment is of the session's peering, and the session can take it
pub record FitsSession (config : SessionConfig) (g : Segment) : Type 0 where
  pub peering : g.peering ≡ config.peering
  pub way : g.way ≡ Home
  pub len : length g.bytes < 2 ^ 16
  pub in_streams : IsInStreams (received_as config g)

abbrev pub FitsPlace : Option Place → Segment → Type 0
FitsPlace None g = Unit {0}
FitsPlace (Some (Live s errand)) g = FitsSession s.session.config g
FitsPlace (Some (Shadow away)) g = Unit {0}

-- The segment arrives at the live session; if there is none, it strays.
abbrev pub ArrivesAt : Bool → Option Place → Segment → Option Place → Type 0
ArrivesAt live None g new = (live ≡ false) × (new ≡ None)
ArrivesAt live (Some (Live s errand)) g new = (live ≡ true) × (arrival : Arrival)
    × (u : RunningSession) × SegmentArrives arrival s g u × (new ≡ Some (Live u errand))
ArrivesAt live (Some (Shadow away)) g new = (live ≡ false) × (new ≡ Some (Shadow away))

-- The live session reads, if it can.
abbrev pub SessionReads : RunningSession → Option ReadStep → RunningSession → Type 0
SessionReads s step u = ReadsFrameIfAny step s u

abbrev pub ReadsAt : Option ReadStep → Option Place → Option Place → Type 0
ReadsAt step old new = AtPlace SessionReads old step new

-- ---- after a message

-- the sets of other numbers stay
pub record OneSet (before : List Prefixes) (p : ℕ) (after : List Prefixes) : Type 0 where
  pub length : length after ≡ length before
  pub others : (q : ℕ) → q ≢ p → table_at after q ≡ table_at before q

-- The router follows what the live session of a peering read.
pub record FollowsStep (old : Fields) (p : ℕ) (s : RunningSession) (step : ReadStep) (new : Fields) : Type 0 where
  pub same : new ≡ record old { rib = new.rib; due_out = new.due_out }
  pub entered : EntersAll (rib_of old.rib) p (entry_here old.home_as old.policies s.session) (prefixes_in step) (rib_of new.rib)
  pub sets : OneSet old.due_out p new.due_out
  pub due : DueBy step old.rib.best (table_at old.due_out p) (table_at new.due_out p)

-- A session is live at a place, with this errand, and what was told on it and what is best is due.
pub record MakesLive (old : Fields) (p : ℕ) (s : RunningSession) (errand : Option Errand) (new : Fields) : Type 0 where
  pub same : new ≡ record old { places = new.places; due_out = new.due_out }
  pub held : new.places ≡ with_place old.places p (Some (Live s errand))
  pub sets : OneSet old.due_out p new.due_out
  pub due : IsDueAgain s.session.adj_rib_out old.rib.best (table_at new.due_out p)

-- A session lands in a graft: its routes are taken in, it is live, and routers are to be asked and then its source told.
pub record SettlesIn (old : Fields) (s : RunningSession) (landed : Landing) (new : Fields) : Type 0 where
  pub same : new ≡ record old { places = new.places; rib = new.rib; due_out = new.due_out }
  pub entered : EntersAll (rib_of old.rib) s.session.config.peering.0 (entry_here old.home_as old.policies s.session)
      (map.keys s.session.adj_rib_in) (rib_of new.rib)
  pub held : new.places ≡ with_place old.places s.session.config.peering.0 (Some (Live s (Some (Owing landed))))
  pub sets : OneSet old.due_out s.session.config.peering.0 new.due_out
  pub due : IsDueAgain s.session.adj_rib_out old.rib.best (table_at new.due_out s.session.config.peering.0)

-- ---- what a router keeps meanwhile

-- the invariant without the part that its places keep
abbrev pub KeepsRest : Fields → Type 0
KeepsRest f = KeepsWith (λ p. Unit {0}) f

-- A live session of its peering may have more to read.
pub record KeepsLive (f : Fields) (p : ℕ) : Type 0 where
  pub session : RunningSession
  pub errand : Option Errand
  pub live : RunsAt f.places.places p session errand
  pub own : IsOfPeering f.known.setup p session.session
  pub for_graft : IsErrandOf f.known.setup f.number.0 p errand
  pub due : IsDueWhileUp session.session (table_at f.due_out p)

-- The router is sound, except that this session may have more to read.
pub record KeepsBut (p : ℕ) (f : Fields) : Type 0 where
  pub rest : KeepsRest f
  pub here : KeepsLive f p
  pub others : (q : ℕ) → q ≢ p → KeepsAt f q

-- ---- messages one after another

-- the number of bytes that a session has ready and unread
abbrev pub unread_at : Option Place → ℕ
unread_at None = 0
unread_at (Some (Live s errand)) = length (unread s.session)
unread_at (Some (Shadow away)) = 0

-- The places of other peerings stay, and the session of this one emits nothing.
pub record StaysBut (p : ℕ) (old new : Fields) : Type 0 where
  pub same : new ≡ record old { places = new.places; rib = new.rib; due_out = new.due_out }
  pub others : (q : ℕ) → q ≢ p → place_at new.places.places q ≡ place_at old.places.places q
  pub stays : (s u : RunningSession) (o q : Option Errand) → RunsAt old.places.places p s o → RunsAt new.places.places p u q → Stays s u

-- One message is read, and the router follows it.
pub record ReadsOne (p : ℕ) (old : Fields) (before : Post (Item RunningSession)) (new : Fields) (after : Post (Item RunningSession)) : Type 0 where
  pub did : (t : ℕ → Tally) → DidAsRouter old before t (Got p ∷ []) new after t
  pub stays : StaysBut p old new
  pub less : unread_at (place_at new.places.places p) < unread_at (place_at old.places.places p)
  pub keeps : KeepsBut p new

-- There is nothing to read.
pub record ReadsNone (p : ℕ) (old : Fields) (before : Post (Item RunningSession)) (new : Fields) (after : Post (Item RunningSession)) : Type 0 where
  pub same : new ≡ record old { places = new.places }
  pub places : new.places ≡ old.places
  pub post : after ≡ before
  pub none : (s : RunningSession) (o : Option Errand) → RunsAt old.places.places p s o → CantRead s.session

-- All that can be read is read, so the router is sound.
pub record ReadsAll (p : ℕ) (old : Fields) (before : Post (Item RunningSession)) (new : Fields) (after : Post (Item RunningSession)) : Type 0 where
  pub events : List RouterEvent
  pub did : (t : ℕ → Tally) → DidAsRouter old before t events new after t
  pub at : AreAt 0 events
  pub stays : StaysBut p old new
  pub keeps : RouterInvariant new
