-- How a further invariant of a peering is added: it holds in the first world, and each change keeps it.
use Rattle.std.specs.Prelude.{ℕ, ◌≡◌, ◌<◌, List, Some}
use Rattle.session_value.specs.Sessions.{SessionValue, begun}
use Rattle.session_value.specs.declared.config.SessionConfig.{SessionConfig}
use Rattle.graft_model.specs.Setups.{Setup, config_of, start_of, peerings_in}
use Rattle.graft_model.specs.Parts.{World}
use Rattle.graft_model.specs.First.{first_world}
use Rattle.graft_model.specs.Steps.{Event, Run}
use Rattle.graft_laws.specs.Phases.{Phase, Idle}
use Rattle.graft_laws.specs.Owned.{Stands}
use Rattle.graft_laws.specs.Life.{Change}

-- A world to which a run leads from the first world.
pub record Reached (setup : Setup) (w : World) : Type 0 where
  pub events : List Event
  pub run : Run setup (first_world setup) events w

-- A property of a peering, its phase and its session that is an invariant: it holds at the start, and each change keeps it.
pub record IsInvariant (setup : Setup) (I : World → ℕ → Phase → SessionValue → Type 0) : Type 0 where
  pub first : (p : ℕ) (config : SessionConfig) → config_of setup p ≡ Some config → I (first_world setup) p (Idle (start_of setup p)) (begun config)
  pub step : (before after : World) (p : ℕ) (phase next : Phase) (s t : SessionValue) → Reached setup before → p < peerings_in setup
      → Stands setup before p phase s → Stands setup after p next t → Change setup before after p phase s next t → I before p phase s → I after p next t

-- the peering is in a phase with a session, and the property holds there
pub record Has (setup : Setup) (I : World → ℕ → Phase → SessionValue → Type 0) (w : World) (p : ℕ) : Type 0 where
  pub phase : Phase
  pub session : SessionValue
  pub stands : Stands setup w p phase session
  pub more : I w p phase session
