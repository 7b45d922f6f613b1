-- The sessions with which a router begins.
use Rattle.std.specs.Prelude.{ℕ, ◌≡◌, ◌<◌, ◌==◌, List, Option, Some, None, length}
use Rattle.std.specs.List.{find}
use Rattle.bgp_story.specs.Legal.{IsPeering}
use Rattle.session_value.specs.declared.config.SessionConfig.{SessionConfig}
use Rattle.session_value.specs.Sessions.{peering_of, begun}
use Rattle.audit_router.specs.Places.{place_at}
use Rattle.audit_router.specs.declared.place.Place.{Place}
use Rattle.audit_router.specs.declared.place.Place.TheVariants.{Vacant, Live}

-- a session of one of so many peerings may begin with this
pub record CanBegin (count : ℕ) (config : SessionConfig) : Type 0 where
  pub there : config.peering.0 < count
  pub valid : IsPeering (peering_of config)

-- the place of a session that begins
abbrev pub begun_place : Option SessionConfig → Place
begun_place None = Vacant
begun_place (Some config) = Live (record { session = begun config; acked_at_turn = 0 }) None

-- Each place has the first session of the list that is its peering's, and is vacant if there is none.
pub record AreBegun (count : ℕ) (sessions : List SessionConfig) (places : List Place) : Type 0 where
  pub all : length places ≡ count
  pub each : (p : ℕ) → p < count → place_at places p ≡ begun_place (find (λ config. config.peering.0 == p) sessions)
