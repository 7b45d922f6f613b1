-- The places of a router that begins.
use Rattle.std.specs.Prelude.{ℕ, ◌≡◌, ◌<◌, ◌==◌, List, [], ◌∷◌, length, None, if◌then◌else◌, Option, Some}
use Rattle.bgp_story.specs.Legal.{IsPeering}
use Rattle.session_value.specs.declared.config.SessionConfig.{SessionConfig}
use Rattle.session_value.specs.Sessions.{begun, peering_of}
use Rattle.bgp_session.specs.Running.{RunningSession}
use Rattle.router_core.specs.Places.{place_at}
use Rattle.router_core.specs.declared.place.Place.{Place}
use Rattle.router_core.specs.declared.place.Place.TheVariants.{Live}

-- a session that begins, which has had no retransmission turn
abbrev pub begun_session : SessionConfig → RunningSession
begun_session config = record { session = begun config; acked_at_turn = 0 }

-- the first session of a peering among those that begin, if there is one
abbrev pub begun_at : List SessionConfig → ℕ → Option Place
begun_at [] p = None
begun_at (config ∷ configs) p = if p == config.peering.0 then Some (Live (begun_session config) None) else begun_at configs p

-- A session can begin at one of `count` places.
pub record CanBegin (count : ℕ) (config : SessionConfig) : Type 0 where
  pub there : config.peering.0 < count
  pub valid : IsPeering (peering_of config)

pub record AreBegun (count : ℕ) (configs : List SessionConfig) (places : List (Option Place)) : Type 0 where
  pub length : length places ≡ count
  pub each : (p : ℕ) → place_at places p ≡ begun_at configs p
