-- A router as the model has it, and the invariant of its fields.
use Rattle.std.specs.Prelude.{ℕ, ◌≡◌, ◌<◌, length, Option, Some, None}
use Rattle.bgp_types.specs.declared.message.SessionState.TheVariants.{Established}
use Rattle.session_value.specs.Sessions.{state}
use Rattle.graft_model.specs.Setups.{Setup, peerings_in, room_of, routers_in}
use Rattle.graft_model.specs.Parts.{RouterPart}
use Rattle.graft_model.specs.Parts as model
use Rattle.router_tables.specs.Owned.{HasNoEntry, IsOfPeering, IsGraftOf, IsLandingOf}
use Rattle.audit_tables.specs.Parts.{part_with, entries_at, KnowsWhatToTell, TablesInvariant}
use Rattle.audit_router.specs.Places.{place_of, place_at}
use Rattle.audit_router.specs.declared.place.Errand.{Errand}
use Rattle.audit_router.specs.declared.place.Errand.TheVariants.{Leaving, Owing, Asking}
use Rattle.audit_router.specs.declared.place.Place.{Place}
use Rattle.audit_router.specs.declared.place.Place.TheVariants.{Vacant, Live, Frozen, Shadow}
use Rattle.audit_router.specs.declared.router.AuditedRouter.{AuditedRouter}

abbrev pub places_of : AuditedRouter → ℕ → model.Place
places_of r p = place_of (place_at r.places.items p)

abbrev pub router_part : AuditedRouter → RouterPart
router_part r = part_with (places_of r) r.tables

abbrev pub setup_of_router : AuditedRouter → Setup
setup_of_router r = r.tables.known.setup

abbrev pub IsErrandOf : Setup → ℕ → ℕ → Option Errand → Type 0
IsErrandOf setup r p None = Unit {0}
IsErrandOf setup r p (Some (Leaving ids)) = IsGraftOf setup r p ids
IsErrandOf setup r p (Some (Owing landing)) = IsLandingOf setup r p landing.ids
IsErrandOf setup r p (Some (Asking landing)) = IsLandingOf setup r p landing.ids × (landing.next < routers_in setup)

-- A vacant place has no entries. A session is its peering's, and what is known to be to tell on it, if it is live, is right. A frozen one is
-- established.
abbrev pub KeepsPlace : AuditedRouter → ℕ → Place → Type 0
KeepsPlace r p Vacant = HasNoEntry (entries_at r.tables p)
KeepsPlace r p (Live s errand) = IsOfPeering (setup_of_router r) p s.session × IsErrandOf (setup_of_router r) r.tables.number.0 p errand
    × KnowsWhatToTell r.tables (places_of r) p s.session
KeepsPlace r p (Frozen s ids) = IsOfPeering (setup_of_router r) p s.session × IsGraftOf (setup_of_router r) r.tables.number.0 p ids
    × (state s.session ≡ Established)
KeepsPlace r p (Shadow graft) = Unit {0}

pub record RouterInvariant (r : AuditedRouter) : Type 0 where
  pub tables : TablesInvariant r.tables
  pub routers : r.routers ≡ routers_in (setup_of_router r)
  pub room : r.room ≡ room_of (setup_of_router r) r.tables.number.0
  pub all : length r.places.items ≡ peerings_in (setup_of_router r)
  pub each : (p : ℕ) → KeepsPlace r p (place_at r.places.items p)
