-- The places after the live session at one of them was lent.
use Rattle.std.specs.Prelude.{ℕ, Option, Some, None}
use Rattle.std.specs.Borrow.{LendsIf, Fml, MutBor}
use Rattle.session_places.specs.Places.{PlaceList, with_place}
use Rattle.session_places.specs.contracts.Places.{the_row as places_row}
use Rattle.bgp_session.specs.Running.{RunningSession}
use Rattle.bgp_session.specs.contracts.session.Session.{the_row as session_row}
use Rattle.router_core.specs.Places.{place_at}
use Rattle.router_core.specs.contracts.place.Place.{the_row as place_row}
use Rattle.router_core.specs.declared.place.Place.{Place}
use Rattle.router_core.specs.declared.place.Place.TheVariants.{Live, Shadow}

-- the live session of a place, if there is one
abbrev pub live_in : Option Place → Option RunningSession
live_in None = None
live_in (Some (Live s errand)) = Some s
live_in (Some (Shadow away)) = None

-- the place with another live session in place of its own
abbrev pub with_live : Option Place → RunningSession → Option Place
with_live None u = None
with_live (Some (Live s errand)) u = Some (Live u errand)
with_live (Some (Shadow away)) u = Some (Shadow away)

-- once the borrow r ends, the last session written through it is live at the place, and all else is unchanged
abbrev pub lends_live : MutBor (PlaceList Place) → ℕ → Option (MutBor RunningSession) → Fml
lends_live places n r = LendsIf (places_row place_row) session_row places r
    (λ u. with_place places.now n (with_live (place_at places.now.places n) u)) places.now
