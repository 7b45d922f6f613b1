-- A router's places as it keeps them.
use Rattle.std.specs.Prelude.{ℕ, ◌≡◌, List, [], ◌∷◌, Option, Some, None, option_map, min, slice_index_or}
use Rattle.std.specs.List.{flat_map}
use Rattle.bgp_session.specs.Running.{RunningSession}
use Rattle.session_places.specs.Places.{PlaceList, with_place}
use Rattle.graft_steps.specs.Landings.{Landing}
use Rattle.graft_steps.specs.declared.order.GraftIds.{GraftIds}
use Rattle.graft_model.specs.Parts as model
use Rattle.router_core.specs.declared.place.Errand.{Errand}
use Rattle.router_core.specs.declared.place.Errand.TheVariants.{Leaving, Owing, Asking}
use Rattle.router_core.specs.declared.place.Place.{Place}
use Rattle.router_core.specs.declared.place.Place.TheVariants.{Live, Shadow}

abbrev pub order_of : GraftIds → model.Order
order_of ids = record { graft = ids.graft; target = ids.target.0 }

abbrev pub word_of : Landing → model.Word
word_of landing = record { graft = landing.ids.graft; source = landing.ids.source.0; next = landing.next }

abbrev pub errand_of : Errand → model.Errand
errand_of (Leaving ids) = model.Leaving (order_of ids)
errand_of (Owing landing) = model.Owing (word_of landing)
errand_of (Asking landing) = model.Asking (word_of landing)

-- the place as the model has it: a place is never frozen at the end of a call
abbrev pub place_of : Option Place → model.Place
place_of None = model.Vacant
place_of (Some (Live running errand)) = model.Live running.session (option_map errand_of errand)
place_of (Some (Shadow away)) = model.Shadow away.graft

-- the content of the place for a peering; none beyond the last one
abbrev pub place_at : List (Option Place) → ℕ → Option Place
place_at places p = slice_index_or places p None

-- a running session is live there, with this errand
pub record RunsAt (places : List (Option Place)) (p : ℕ) (running : RunningSession) (errand : Option Errand) : Type 0 where
  pub is : place_at places p ≡ Some (Live running errand)

-- the content of one place changes by `Goes`, and all else stays the same
pub record AtOne (Goes : Option Place → Option Place → Type 0) (old : PlaceList Place) (n : ℕ) (new : PlaceList Place) : Type 0 where
  pub place : Option Place
  pub goes : Goes (place_at old.places n) place
  pub stays : new ≡ with_place old n place

-- a session without an errand is live there
pub record IsLiveWithoutErrand (place : Option Place) : Type 0 where
  pub session : RunningSession
  pub is : place ≡ Some (Live session None)

-- a session has left this place in this graft
pub record IsShadowOf (place : Option Place) (k : ℕ) : Type 0 where
  pub away : GraftIds
  pub is : place ≡ Some (Shadow away)
  pub graft : away.graft ≡ k

-- the lower of two numbers, or the one that there is
abbrev pub lower_of : Option ℕ → Option ℕ → Option ℕ
lower_of None other = other
lower_of (Some n) None = Some n
lower_of (Some n) (Some m) = Some (min n m)

-- the sessions that are held, in ascending order of peering
abbrev pub session_in : Option Place → List RunningSession
session_in None = []
session_in (Some (Live running errand)) = running ∷ []
session_in (Some (Shadow away)) = []

abbrev pub sessions_in : List (Option Place) → List RunningSession
sessions_in places = flat_map session_in places
