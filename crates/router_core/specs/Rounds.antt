-- The events of a router one after another: each by its row, where what it emits and puts is what a turn emits and puts.
use Rattle.std.specs.Prelude.{ℕ, zero, suc, ◌≡◌, true, List, [], ◌∷◌, length, Option}
use Rattle.std.specs.List.{AllByRecursion}
use Rattle.ring_net.specs.Deeds.{Deed, Replay, TakesNone}
use Rattle.ring_net.specs.Posts.{actor_of, Wrote}
use Rattle.ring_net.specs.declared.post.Post.{Post}
use Rattle.graft_steps.specs.declared.item.Item.{Item}
use Rattle.bgp_session.specs.Running.{RunningSession, carried}
use Rattle.tcp_seq.specs.Endpoint.{Endpoint}
use Rattle.session_value.specs.Sessions.{SessionValue}
use Rattle.update_plan.specs.declared.batch.Batch.{Batch}
use Rattle.graft_model.specs.Points.{at}
use Rattle.graft_model.specs.Setups.{Setup}
use Rattle.graft_model.specs.Parts.{Place, Vacant, Live, Frozen, Shadow, Errand, RouterPart}
use Rattle.graft_model.specs.RouterRows.{RouterTaken, RouterSent, IsLive}
use Rattle.graft_model.specs.Codes.{router_code}
use Rattle.graft_model.specs.declared.event.RouterEvent.{RouterEvent}
use Rattle.graft_model.specs.declared.event.RouterEvent.TheVariants.{Put, Emit}
use Rattle.graft_model.specs.Steps.{router_row}
use Rattle.graft_actors.specs.Makes.{AreDeeds}
use Rattle.graft_actors.specs.Acts.{acts}
use Rattle.graft_actors.specs.Notes.{WroteOne}
use Rattle.graft_actors.specs.Emissions.{IsOld, IsNewSlice, IsCareful, Tally, tallied}
use Rattle.router_core.specs.Parts.{router_part, own_part}
use Rattle.router_core.specs.Updates.{IsNextUpdate}
use Rattle.router_core.specs.declared.fields.Fields.{Fields}

-- ---- one event

-- the session that is live there emits an old slice, a new one or an owed acknowledgement
pub record EmitsCarefully (part : RouterPart) (p from len : ℕ) : Type 0 where
  pub session : SessionValue
  pub errand : Option Errand
  pub live : IsLive part p session errand
  pub careful : IsCareful session.end from len

-- n is the number of prefixes in the next UPDATE of the live session there
pub record PutsNext (setup : Setup) (r : ℕ) (part : RouterPart) (p n : ℕ) : Type 0 where
  pub session : SessionValue
  pub errand : Option Errand
  pub live : IsLive part p session errand
  pub batch : Batch
  pub next : IsNextUpdate setup r part p session batch
  pub size : length batch.prefixes ≡ n

abbrev pub CarefulRouter : Setup → ℕ → RouterPart → RouterEvent → Type 0
CarefulRouter setup r part (Emit p from len) = EmitsCarefully part p from len
CarefulRouter setup r part (Put p (suc n)) = PutsNext setup r part p (suc n)
CarefulRouter setup r part event = Unit {0}

-- ---- what a router does at one stage of a round

-- the session that is live there emits a segment of this kind
pub record EmitsSome (Kind : Endpoint → ℕ → ℕ → Type 0) (part : RouterPart) (p from len : ℕ) : Type 0 where
  pub session : SessionValue
  pub errand : Option Errand
  pub live : IsLive part p session errand
  pub kind : Kind session.end from len

-- a segment without bytes is an acknowledgement that is owed; one with bytes is new
abbrev pub IsNewOrOwed : Endpoint → ℕ → ℕ → Type 0
IsNewOrOwed e from zero = e.owed ≡ true
IsNewOrOwed e from (suc n) = IsNewSlice e from (suc n)

-- the first outstanding slice of a session is sent again
abbrev pub RouterRetransmits : RouterPart → RouterEvent → Type 0
RouterRetransmits part (Emit p from len) = EmitsSome IsOld part p from len
RouterRetransmits part event = ⊥

-- what is emitted is new, or an acknowledgement that is owed; and an UPDATE that is put is the next one
abbrev pub IsNewWork : Setup → ℕ → RouterPart → RouterEvent → Type 0
IsNewWork setup r part (Emit p from len) = EmitsSome IsNewOrOwed part p from len
IsNewWork setup r part (Put p (suc n)) = PutsNext setup r part p (suc n)
IsNewWork setup r part event = Unit {0}

-- The events lead from one part to another through these parts, one after each event. Each event goes by its row, and is one that the stage allows.
abbrev pub RouterGoes : Setup → ℕ → (RouterPart → RouterEvent → Type 0) → RouterPart → List RouterEvent → List RouterPart → RouterPart → Type 0
RouterGoes setup r Allowed before [] [] after = after ≡ before
RouterGoes setup r Allowed before (event ∷ events) (next ∷ parts) after =
    (taken : Option RouterTaken) × (sent : List RouterSent) × router_row setup r event before taken sent next
    × Allowed before event × RouterGoes setup r Allowed next events parts after
RouterGoes setup r Allowed before events parts after = ⊥

-- ---- the same with tallies, which the stages count

-- what is emitted from a place is counted
abbrev pub tally_at : Place → ℕ → ℕ → Tally → Tally
tally_at Vacant from len t = t
tally_at (Live session errand) from len t = tallied session.end from len t
tally_at (Frozen session order) from len t = t
tally_at (Shadow graft) from len t = t

abbrev pub router_tally : RouterPart → RouterEvent → (ℕ → Tally) → ℕ → Tally
router_tally part (Emit p from len) t = at t p (tally_at (part.places p) from len (t p))
router_tally part event t = t

-- the next event is written, whether it takes an item or not
abbrev pub WritesEvent : Post (Item RunningSession) → RouterEvent → List (ℕ × Item RunningSession) → Post (Item RunningSession) → Type 0
WritesEvent before event sent after = WroteOne before (router_code event) sent after

-- ---- events of a part, one after another

-- The events lead from one part to another, each by its row; each segment that is emitted is an old slice, a new one or an owed acknowledgement; each
-- UPDATE that is put is the next one; and the tallies, one per peering, count the segments.
abbrev pub RouterRound : Setup → ℕ → RouterPart → (ℕ → Tally) → List RouterEvent → RouterPart → (ℕ → Tally) → Type 0
RouterRound setup r before t [] after u = (after ≡ before) × (u ≡ t)
RouterRound setup r before t (event ∷ events) after u =
    (taken : Option RouterTaken) × (sent : List RouterSent) × (mid : RouterPart) × router_row setup r event before taken sent mid
    × CarefulRouter setup r before event
    × RouterRound setup r mid (router_tally before event t) events after u

-- a router's laboratory and number stay the same
pub record SameRouter (old new : Fields) : Type 0 where
  pub setup : new.known.setup ≡ old.known.setup
  pub number : new.number ≡ old.number

-- What a part of a call that takes no item does: the events that it made and wrote.
pub record DidAsRouter (old : Fields) (before : Post (Item RunningSession)) (t : ℕ → Tally) (events : List RouterEvent)
    (new : Fields) (after : Post (Item RunningSession)) (u : ℕ → Tally) : Type 0 where
  pub router : SameRouter old new
  pub deeds : List (Deed (Item RunningSession))
  pub wrote : Wrote before deeds after
  pub none : AllByRecursion TakesNone deeds
  pub coded : AreDeeds router_code events deeds
  pub replay : Replay (acts carried) (actor_of before) (own_part old) deeds (own_part new)
  pub round : RouterRound old.known.setup old.number.0 (router_part old) t events (router_part new) u
