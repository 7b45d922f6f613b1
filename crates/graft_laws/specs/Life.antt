-- The life of a peering: all that an event of the world can do to it.
use Rattle.std.specs.Prelude.{ℕ, ◌≡◌, ◌≢◌, List, [], ◌∷◌, ◌++◌, Option, Some, None}
use Rattle.std.specs.FinMap as map
use Rattle.tcp_seq.specs.Endpoint.{Endpoint, PlacedSegment, TakesSegment}
use Rattle.bgp_types.specs.Prefixes.{PrefixValue}
use Rattle.bgp_types.specs.declared.message.Update.{Update}
use Rattle.graft_steps.specs.declared.refusal.Refusal.{Refusal}
use Rattle.graft_steps.specs.Refusals.{freeze_refusal}
use Rattle.session_value.specs.Sessions.{SessionValue, state, hold_time}
use Rattle.session_value.specs.Cases.{GetsFrame, PutsUpdate, PassesRound}
use Rattle.graft_model.specs.Decisions.{to_tell}
use Rattle.graft_model.specs.Slices.{EmitsAt}
use Rattle.graft_model.specs.Setups.{Setup}
use Rattle.graft_model.specs.Parts.{Errand, Live, FarPart, Outward, Seg, PointAt, World}
use Rattle.graft_model.specs.RouterRows.{BringsIn, FollowsHeard}
use Rattle.graft_model.specs.GraftRows.{refusal_of}
use Rattle.graft_model.specs.FarRows.{FarTaken, FarSent}
use Rattle.graft_model.specs.declared.event.FarEvent.{FarEvent}
use Rattle.graft_model.specs.Steps.{far_row}
use Rattle.graft_laws.specs.Phases.{Ordered, Stored, Halted, Moving, Landed, Asking, Confirmed, Returning}
use Rattle.graft_laws.specs.Phases.{Declined, Cleared, Phase, Idle, Busy, place_by, only_at}
use Rattle.graft_laws.specs.Moves.{FarMoves}

-- ---- the far side of a peering, and the channels from and to it

pub record SameLine (p : ℕ) (before after : World) : Type 0 where
  pub far : after.far p ≡ before.far p
  pub outward : (r : ℕ) → after.outward r p ≡ before.outward r p
  pub inward : (r : ℕ) → after.inward p r ≡ before.inward p r
  pub says : after.says p ≡ before.says p

-- the router r sends the far side an item
pub record LineGets (p r : ℕ) (item : Outward) (before after : World) : Type 0 where
  pub far : after.far p ≡ before.far p
  pub outward : (x : ℕ) → after.outward x p ≡ before.outward x p ++ only_at r item x
  pub inward : (x : ℕ) → after.inward p x ≡ before.inward p x
  pub says : after.says p ≡ before.says p

-- the router r takes a segment from the far side
pub record LineGives (p r : ℕ) (segment : PlacedSegment) (before after : World) : Type 0 where
  pub far : after.far p ≡ before.far p
  pub outward : (x : ℕ) → after.outward x p ≡ before.outward x p
  pub inward : (x : ℕ) → only_at r segment x ++ after.inward p x ≡ before.inward p x
  pub says : after.says p ≡ before.says p

-- the operator orders the far side to say a step
pub record LineSays (p step : ℕ) (before after : World) : Type 0 where
  pub far : after.far p ≡ before.far p
  pub outward : (r : ℕ) → after.outward r p ≡ before.outward r p
  pub inward : (r : ℕ) → after.inward p r ≡ before.inward p r
  pub says : after.says p ≡ before.says p ++ step ∷ []

-- ---- the entries that routers have of a peering

pub record SameEntries (p : ℕ) (before after : World) : Type 0 where
  pub same : (r : ℕ) → (after.router r).entries p ≡ (before.router r).entries p

-- the router r has what this session brings in there, and the entries of the others stay the same
pub record Enters (setup : Setup) (p r : ℕ) (session : SessionValue) (before after : World) : Type 0 where
  pub here : BringsIn setup r session ((after.router r).entries p)
  pub others : (x : ℕ) → x ≢ r → (after.router x).entries p ≡ (before.router x).entries p

-- the entries of the router r follow the session, and the entries of the others stay the same
pub record EntersHeard (setup : Setup) (p r : ℕ) (session next : SessionValue) (before after : World) : Type 0 where
  pub here : (x : PrefixValue) → FollowsHeard setup r session next ((before.router r).entries p) ((after.router r).entries p) x
  pub others : (x : ℕ) → x ≢ r → (after.router x).entries p ≡ (before.router x).entries p

-- the router r has no entries now, and those of the others stay the same
pub record DropsEntriesAt (p r : ℕ) (before after : World) : Type 0 where
  pub here : (after.router r).entries p ≡ map.empty
  pub others : (x : ℕ) → x ≢ r → (after.router x).entries p ≡ (before.router x).entries p

-- ---- what is put

-- an UPDATE has the attributes that the router r is to tell of a prefix on the session, or none if it is to tell none
pub record IsUpdateToTell (setup : Setup) (r : ℕ) (session : SessionValue) (update : Update) (before : World) : Type 0 where
  pub prefix : PrefixValue
  pub attrs : update.attrs ≡ to_tell setup r (before.router r) session prefix

-- ---- changes

-- The events of a graft that change neither the session nor its routes, in their order: with the phase before and after.
pub data GraftMove (setup : Setup) (before : World) : Phase → SessionValue → Phase → Type 0 where
  Begins : {q k t : ℕ} {s : SessionValue} → GraftMove setup before (Idle q) s (Busy q k t Ordered)
  Admits : {q k t : ℕ} {s : SessionValue} → GraftMove setup before (Busy q k t Ordered) s (Busy q k t Stored)
  Refuses : {q k t : ℕ} {s : SessionValue} {refusal : Refusal} → freeze_refusal (record { 0 = q }) (record { 0 = t }) (state s) (hold_time s) ≡ Some refusal
      → GraftMove setup before (Busy q k t Stored) s (Busy q k t (Declined refusal))
  Freezes : {q k t : ℕ} {s : SessionValue} → freeze_refusal (record { 0 = q }) (record { 0 = t }) (state s) (hold_time s) ≡ None
      → GraftMove setup before (Busy q k t Stored) s (Busy q k t Halted)
  Leaves : {q k t : ℕ} {s : SessionValue} → GraftMove setup before (Busy q k t Halted) s (Busy q k t Moving)
  TurnsBack : {q k t : ℕ} {s : SessionValue} {refusal : Refusal} → refusal_of setup t (before.router t) s ≡ Some refusal
      → GraftMove setup before (Busy q k t Moving) s (Busy q k t (Returning refusal))
  Returns : {q k t : ℕ} {s : SessionValue} {refusal : Refusal} → GraftMove setup before (Busy q k t (Returning refusal)) s (Busy q k t (Declined refusal))
  Asks : {q k t n m : ℕ} {s : SessionValue} → GraftMove setup before (Busy q k t (Landed n)) s (Busy q k t (Asking m))
  Counts : {q k t n m : ℕ} {s : SessionValue} → GraftMove setup before (Busy q k t (Asking n)) s (Busy q k t (Landed m))
  Confirms : {q k t n : ℕ} {s : SessionValue} → GraftMove setup before (Busy q k t (Landed n)) s (Busy q k t Confirmed)
  NotesRefusal : {q k t : ℕ} {s : SessionValue} {refusal : Refusal} → GraftMove setup before (Busy q k t (Declined refusal)) s (Idle q)
  NotesSuccess : {q k t : ℕ} {s : SessionValue} → GraftMove setup before (Busy q k t Cleared) s (Idle t)

-- The events of a session that is live at the router r: with the session before and after.
pub data SessionAct (setup : Setup) (before after : World) (p r : ℕ) : SessionValue → SessionValue → Type 0 where
  Puts : {s next : SessionValue} (update : Update) → PutsUpdate s update next → IsUpdateToTell setup r s update before → SameLine p before after
      → SameEntries p before after
      → SessionAct setup before after p r s next
  Emits : {s : SessionValue} (from len : ℕ) (segment : PlacedSegment) (end : Endpoint) → EmitsAt from len s.end segment end
      → LineGets p r (Seg segment) before after → SameEntries p before after
      → SessionAct setup before after p r s (record s { end = end })
  Arrives : {s : SessionValue} (segment : PlacedSegment) (end : Endpoint) → TakesSegment s.end segment end → LineGives p r segment before after
      → SameEntries p before after
      → SessionAct setup before after p r s (record s { end = end })
  Gets : {s next : SessionValue} (bytes : List ℕ) → GetsFrame s bytes next → SameLine p before after → EntersHeard setup p r s next before after
      → SessionAct setup before after p r s next
  Ticks : {s next : SessionValue} (round : ℕ) → PassesRound s round next → SameLine p before after → EntersHeard setup p r s next before after
      → SessionAct setup before after p r s next

-- Phase and session before an event, and after it.
pub data Change (setup : Setup) (before after : World) (p : ℕ) : Phase → SessionValue → Phase → SessionValue → Type 0 where
  -- an event of another peering, or on tables alone
  Rests : {phase : Phase} {s : SessionValue} → SameLine p before after → SameEntries p before after → Change setup before after p phase s phase s
  -- a graft goes on: the far side and the entries notice only the landing and the end of the shadow
  Grafts : {phase next : Phase} {s : SessionValue} → GraftMove setup before phase s next → SameLine p before after → SameEntries p before after
      → Change setup before after p phase s next s
  Lands : {q k t : ℕ} {s : SessionValue} → refusal_of setup t (before.router t) s ≡ None
      → LineGets p t (PointAt k) before after → Enters setup p t s before after → Change setup before after p (Busy q k t Moving) s (Busy q k t (Landed 0)) s
  Clears : {q k t : ℕ} {s : SessionValue} → SameLine p before after → DropsEntriesAt p q before after
      → Change setup before after p (Busy q k t Confirmed) s (Busy q k t Cleared) s
  -- an event of the session at the router where it is live
  Acts : {phase : Phase} {s next : SessionValue} (r : ℕ) (errand : Option Errand) → place_by phase s r ≡ Live s errand
      → SessionAct setup before after p r s next → Change setup before after p phase s phase next
  -- a segment finds no live session
  Strays : {phase : Phase} {s : SessionValue} (r : ℕ) (segment : PlacedSegment) → LineGives p r segment before after → SameEntries p before after
      → Change setup before after p phase s phase s
  -- a step is to be said; the far side's own events follow
  IsToSay : {phase : Phase} {s : SessionValue} (step : ℕ) → LineSays p step before after → SameEntries p before after
      → Change setup before after p phase s phase s
  FarActs : {phase : Phase} {s : SessionValue} (event : FarEvent) (taken : Option FarTaken) (sent : List FarSent) (part : FarPart)
      → far_row setup p event (before.far p) taken sent part
      → FarMoves p taken sent part before after → SameEntries p before after → Change setup before after p phase s phase s
