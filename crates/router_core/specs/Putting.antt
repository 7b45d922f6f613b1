-- What is put on the session at a place.
use Rattle.std.specs.Prelude.{ℕ, ◌≡◌, ◌≢◌, ◌<◌, ◌≤◌, List, [], ◌∷◌, Option, Some, None, Bool, true, false, MatchBool}
use Rattle.ring_net.specs.declared.post.Post.{Post}
use Rattle.bgp_types.specs.declared.message.SessionState.TheVariants.{Established}
use Rattle.bgp_types.specs.declared.message.Update.{Update}
use Rattle.bgp_story.specs.Legal.{IsOneWay, is_wide}
use Rattle.graft_steps.specs.declared.item.Item.{Item}
use Rattle.session_value.specs.Cases.{Changes, PutsUpdate}
use Rattle.session_value.specs.Sessions.{SessionValue, state, peering_of}
use Rattle.bgp_session.specs.Running.{RunningSession}
use Rattle.bgp_session.specs.Steps.{offered_length}
use Rattle.rib_stages.specs.Values.{table_at}
use Rattle.update_plan.specs.Plans.{IsPlan}
use Rattle.update_plan.specs.declared.batch.Batch.{Batch}
use Rattle.graft_model.specs.Setups.{Setup}
use Rattle.graft_model.specs.Parts.{RouterPart}
use Rattle.graft_model.specs.RouterRows.{IsToTell}
use Rattle.graft_model.specs.Decisions.{to_tell}
use Rattle.graft_model.specs.declared.event.RouterEvent.{RouterEvent}
use Rattle.graft_actors.specs.Emissions.{Tally}
use Rattle.router_core.specs.Parts.{router_part, RouterInvariant}
use Rattle.router_core.specs.Places.{place_at}
use Rattle.router_core.specs.Rested.{IsDone}
use Rattle.router_core.specs.Rounds.{DidAsRouter}
use Rattle.router_core.specs.Stages.{PlaceGoes, PutsMore}
use Rattle.router_core.specs.Turned.{AreAt}
use Rattle.router_core.specs.Updates.{IsNextUpdate, IsStuckInTime}
use Rattle.router_core.specs.Visits.{SameButLeaving}
use Rattle.router_core.specs.declared.fields.Fields.{Fields}
use Rattle.router_core.specs.declared.place.Place.{Place}
use Rattle.router_core.specs.declared.place.Place.TheVariants.{Live, Shadow}

-- ---- the offer

-- the UPDATE may be offered
pub record CanOffer (session : SessionValue) (update : Update) : Type 0 where
  pub established : state session ≡ Established
  pub one_way : IsOneWay update (is_wide (peering_of session.config) session.story)
  pub changes : Changes session.adj_rib_out update

abbrev pub OffersAt : Option Place → Update → Type 0
OffersAt None update = ⊥
OffersAt (Some (Live s errand)) update = CanOffer s.session update
OffersAt (Some (Shadow away)) update = ⊥

pub record WasPut (s : RunningSession) (update : Update) (u : RunningSession) : Type 0 where
  pub puts : PutsUpdate s.session update u.session
  pub same_turn : u.acked_at_turn ≡ s.acked_at_turn

-- the stream has no room for it
pub record HadNoRoom (s : RunningSession) (update : Update) (u : RunningSession) : Type 0 where
  pub full : 1044480 < offered_length s.session update
  pub same : u ≡ s

abbrev pub OfferedAt : Bool → Update → Option Place → Option Place → Type 0
OfferedAt put update None new = ⊥
OfferedAt put update (Some (Live s errand)) new = (u : RunningSession) × (new ≡ Some (Live u errand)) × MatchBool put (WasPut s update u) (HadNoRoom s update u)
OfferedAt put update (Some (Shadow away)) new = ⊥

-- ---- the plan

-- these UPDATEs are to be put, one after another
abbrev pub PlannedAt : Setup → ℕ → RouterPart → ℕ → Option Place → List Batch → Type 0
PlannedAt setup r part p None batches = batches ≡ []
PlannedAt setup r part p (Some (Live s errand)) batches =
    IsPlan (IsToTell setup r part p s.session) (to_tell setup r part s.session) (is_wide (peering_of s.session.config) s.session.story) batches
PlannedAt setup r part p (Some (Shadow away)) batches = batches ≡ []

-- the next UPDATE of the session that is live there
abbrev pub NextAt : Setup → ℕ → RouterPart → ℕ → Option Place → Batch → Type 0
NextAt setup r part p None batch = ⊥
NextAt setup r part p (Some (Live s errand)) batch = (state s.session ≡ Established) × IsNextUpdate setup r part p s.session batch
NextAt setup r part p (Some (Shadow away)) batch = ⊥

-- the length at which no round may pass on the live session there, if it is stuck in this way
abbrev pub TimeAnswer : Option Place → Option ℕ → Type 0
TimeAnswer None answer = answer ≡ None
TimeAnswer (Some (Live s errand)) None = (n : ℕ) → ¬ IsStuckInTime s.session n
TimeAnswer (Some (Live s errand)) (Some n) = IsStuckInTime s.session n
TimeAnswer (Some (Shadow away)) answer = answer ≡ None

-- ---- at one place

-- Something was put there.
pub record PutsSomeAt (n : ℕ) (old : Fields) (before : Post (Item RunningSession)) (new : Fields) (after : Post (Item RunningSession)) : Type 0 where
  pub events : List RouterEvent
  pub did : (t : ℕ → Tally) → DidAsRouter old before t events new after t
  pub at : AreAt 6 events
  pub goes : PlaceGoes PutsMore (place_at old.places.places n) (place_at new.places.places n)
  pub others : (q : ℕ) → q ≢ n → (place_at new.places.places q ≡ place_at old.places.places q) × (table_at new.due_out q ≡ table_at old.due_out q)
  pub same : SameButLeaving old new
  pub keeps : RouterInvariant new

-- All that may be put was put there.
pub record PutsAt (n : ℕ) (old : Fields) (before : Post (Item RunningSession)) (new : Fields) (after : Post (Item RunningSession)) : Type 0 where
  pub some : PutsSomeAt n old before new after
  pub done : IsDone old.known.setup old.number.0 (router_part new) n ((router_part new).places n)

-- An UPDATE was put: the rest of a plan that begins with it is the plan of the new state.
pub record LeavesPlan (n : ℕ) (batch : Batch) (old new : Fields) : Type 0 where
  pub rest : (batches : List Batch) → PlannedAt old.known.setup old.number.0 (router_part old) n (place_at old.places.places n) (batch ∷ batches)
      → PlannedAt new.known.setup new.number.0 (router_part new) n (place_at new.places.places n) batches

abbrev pub PutOrDone : Bool → ℕ → Batch → Fields → Fields → Type 0
PutOrDone true n batch old new = LeavesPlan n batch old new
PutOrDone false n batch old new = IsDone old.known.setup old.number.0 (router_part new) n ((router_part new).places n)

-- ---- at the first n places

pub record PutsFirst (n : ℕ) (old : Fields) (before : Post (Item RunningSession)) (new : Fields) (after : Post (Item RunningSession)) : Type 0 where
  pub events : List RouterEvent
  pub did : (t : ℕ → Tally) → DidAsRouter old before t events new after t
  pub at : AreAt 6 events
  pub goes : (p : ℕ) → p < n → PlaceGoes PutsMore (place_at old.places.places p) (place_at new.places.places p)
  pub done : (p : ℕ) → p < n → IsDone old.known.setup old.number.0 (router_part new) p ((router_part new).places p)
  pub left : (p : ℕ) → n ≤ p → place_at new.places.places p ≡ place_at old.places.places p
  pub same : SameButLeaving old new
  pub keeps : RouterInvariant new
