-- A router's places as it keeps them, and as the model has them.
use Rattle.std.specs.Prelude.{ℕ, ◌≡◌, ◌+◌, List, Option, Some, None, option_map, slice_index_or}
use Rattle.bgp_session.specs.Running.{RunningSession}
use Rattle.graft_steps.specs.Landings.{AreAllAsked, IsNextToAsk, Landing}
use Rattle.graft_steps.specs.Refusals.{freeze_refusal}
use Rattle.graft_steps.specs.declared.order.GraftIds.{GraftIds}
use Rattle.graft_steps.specs.declared.refusal.Refusal.{Refusal}
use Rattle.session_value.specs.Sessions.{hold_time, state}
use Rattle.graft_model.specs.Parts as model
use Rattle.settled_check.specs.Left.{HasStream, graft_in_place}
use Rattle.audit_router.specs.declared.place.Errand.{Errand}
use Rattle.audit_router.specs.declared.place.Errand.TheVariants.{Leaving, Owing, Asking}
use Rattle.audit_router.specs.declared.place.Place.{Place}
use Rattle.audit_router.specs.declared.place.Place.TheVariants.{Vacant, Live, Frozen, Shadow}

abbrev pub order_of : GraftIds → model.Order
order_of ids = record { graft = ids.graft; target = ids.target.0 }

abbrev pub word_of : Landing → model.Word
word_of landing = record { graft = landing.ids.graft; source = landing.ids.source.0; next = landing.next }

abbrev pub errand_of : Errand → model.Errand
errand_of (Leaving ids) = model.Leaving (order_of ids)
errand_of (Owing landing) = model.Owing (word_of landing)
errand_of (Asking landing) = model.Asking (word_of landing)

abbrev pub place_of : Place → model.Place
place_of Vacant = model.Vacant
place_of (Live running errand) = model.Live running.session (option_map errand_of errand)
place_of (Frozen running ids) = model.Frozen running.session (order_of ids)
place_of (Shadow graft) = model.Shadow graft

-- the content of the place for a peering; vacant beyond the last one
abbrev pub place_at : List Place → ℕ → Place
place_at places p = slice_index_or places p Vacant

-- the graft of this number is stored with the live session
pub record IsStoredFor (k : ℕ) (place : Place) (s : RunningSession) (ids : GraftIds) : Type 0 where
  pub is : place ≡ Live s (Some (Leaving ids))
  pub graft : ids.graft ≡ k

-- it is, and this is the first reason to refuse it, if there is one
pub record BeginsAs (k : ℕ) (place : Place) (refusal : Option Refusal) : Type 0 where
  pub session : RunningSession
  pub ids : GraftIds
  pub stored : IsStoredFor k place session ids
  pub cause : freeze_refusal ids.source ids.target (state session.session) (hold_time session.session) ≡ refusal

-- word of the landing in this graft is owed, and no answer is waited for
pub record IsOwedAt (k : ℕ) (place : Place) (landing : Landing) : Type 0 where
  pub session : RunningSession
  pub is : place ≡ Live session (Some (Owing landing))
  pub graft : landing.ids.graft ≡ k

-- it is, and of so many routers this one is to be asked next
pub record AsksNext (k : ℕ) (place : Place) (routers q : ℕ) : Type 0 where
  pub landing : Landing
  pub owed : IsOwedAt k place landing
  pub next : IsNextToAsk landing.ids.source.0 landing.ids.target.0 routers landing.next q

-- it is, and all of so many routers have answered; this is the source of the graft
pub record MayConfirm (k : ℕ) (place : Place) (routers source : ℕ) : Type 0 where
  pub landing : Landing
  pub owed : IsOwedAt k place landing
  pub all : AreAllAsked landing.ids.source.0 landing.ids.target.0 routers landing.next
  pub from : landing.ids.source.0 ≡ source

-- The answer of a router that is waited for in this graft lets the next one be asked; any other changes nothing.
pub record HearsAnswer (graft router : ℕ) (old new : Place) : Type 0 where
  pub counted : (s : RunningSession) (landing : Landing) → old ≡ Live s (Some (Asking landing)) → landing.ids.graft ≡ graft → landing.next ≡ router
      → new ≡ Live s (Some (Owing (record landing { next = landing.next + 1 })))
  pub ignored : ((s : RunningSession) (landing : Landing) → old ≡ Live s (Some (Asking landing)) → landing.ids.graft ≡ graft → landing.next ≡ router → ⊥)
      → new ≡ old

-- Nothing of a graft is at the place, and its session, if it has one, has nothing unread and nothing unacknowledged.
abbrev pub RestsAt : model.Place → Type 0
RestsAt place = (graft_in_place place ≡ None) × (¬ HasStream place)
