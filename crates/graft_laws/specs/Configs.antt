-- The session of a peering belongs to the peering.
use Rattle.std.specs.Prelude.{ℕ, ◌≡◌, Some}
use Rattle.session_value.specs.Sessions.{SessionValue}
use Rattle.graft_model.specs.Setups.{Setup, config_of}
use Rattle.graft_model.specs.Parts.{World}
use Rattle.graft_laws.specs.Phases.{Phase}

-- it has the configuration with which the session of its peering begins
pub record HasOwnConfig (setup : Setup) (w : World) (p : ℕ) (phase : Phase) (session : SessionValue) : Type 0 where
  pub config : config_of setup p ≡ Some session.config
