-- Which place of a router a place of the model is.
use Rattle.std.proofs.Common.{◌≡◌, ℕ, Option, Some, None, refl, ap}
use Rattle.std.specs.Prelude.{option_map}
use Rattle.bgp_session.specs.Running.{RunningSession}
use Rattle.graft_steps.specs.Landings.{Landing}
use Rattle.graft_steps.specs.declared.order.GraftIds.{GraftIds}
use Rattle.session_value.specs.Sessions.{SessionValue}
use Rattle.graft_model.specs.Parts as model
use Rattle.audit_router.specs.Places.{errand_of, order_of, place_of, word_of}
use Rattle.audit_router.specs.declared.place.Errand.{Errand}
use Rattle.audit_router.specs.declared.place.Errand.TheVariants.{Leaving, Owing, Asking}
use Rattle.audit_router.specs.declared.place.Place.{Place}
use Rattle.audit_router.specs.declared.place.Place.TheVariants.{Vacant, Live, Frozen, Shadow}

-- a live session with an errand
pub record IsLiveAs (place : Place) (s : SessionValue) (errand : Option model.Errand) : Type 0 where
  pub running : RunningSession
  pub own : Option Errand
  pub is : place ≡ Live running own
  pub session : running.session ≡ s
  pub errand_is : option_map errand_of own ≡ errand

pub live_as : (place : Place) (s : SessionValue) (errand : Option model.Errand) → place_of place ≡ model.Live s errand → IsLiveAs place s errand
live_as (Live running own) s errand e = record { running = running; own = own; is = refl; session = cc; errand_is = cc }
live_as other s errand e = absurd (let no : ⊥ = cc in no)

pub record IsFrozenAs (place : Place) (s : SessionValue) (order : model.Order) : Type 0 where
  pub running : RunningSession
  pub ids : GraftIds
  pub is : place ≡ Frozen running ids
  pub session : running.session ≡ s
  pub order_is : order_of ids ≡ order

pub frozen_as : (place : Place) (s : SessionValue) (order : model.Order) → place_of place ≡ model.Frozen s order → IsFrozenAs place s order
frozen_as (Frozen running ids) s order e = record { running = running; ids = ids; is = refl; session = cc; order_is = cc }
frozen_as other s order e = absurd (let no : ⊥ = cc in no)

pub shadow_as : (place : Place) (graft : ℕ) → place_of place ≡ model.Shadow graft → place ≡ Shadow graft
shadow_as (Shadow own) graft e = let same : own ≡ graft = cc in ap Shadow same
shadow_as other graft e = absurd (let no : ⊥ = cc in no)

pub vacant_as : (place : Place) → place_of place ≡ model.Vacant → place ≡ Vacant
vacant_as Vacant e = refl
vacant_as other e = absurd (let no : ⊥ = cc in no)

-- ---- which errand it is

pub leaving_as : (own : Option Errand) (order : model.Order) → option_map errand_of own ≡ Some (model.Leaving order)
    → (ids : GraftIds) × (own ≡ Some (Leaving ids)) × (order_of ids ≡ order)
leaving_as (Some (Leaving ids)) order e = (ids, refl, cc)
leaving_as other order e = absurd (let no : ⊥ = cc in no)

pub owing_as : (own : Option Errand) (word : model.Word) → option_map errand_of own ≡ Some (model.Owing word)
    → (landing : Landing) × (own ≡ Some (Owing landing)) × (word_of landing ≡ word)
owing_as (Some (Owing landing)) word e = (landing, refl, cc)
owing_as other word e = absurd (let no : ⊥ = cc in no)

pub asking_as : (own : Option Errand) (word : model.Word) → option_map errand_of own ≡ Some (model.Asking word)
    → (landing : Landing) × (own ≡ Some (Asking landing)) × (word_of landing ≡ word)
asking_as (Some (Asking landing)) word e = (landing, refl, cc)
asking_as other word e = absurd (let no : ⊥ = cc in no)

pub free_as : (own : Option Errand) → option_map errand_of own ≡ None → own ≡ None
free_as None e = refl
free_as (Some errand) e = absurd (let no : ⊥ = cc in no)
