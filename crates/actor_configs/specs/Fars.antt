-- Which configuration is that of a far side of a laboratory.
use Rattle.std.specs.Prelude.{ℕ, ◌≡◌, ◌<◌, ◌≤◌, length, Some, slice_get}
use Rattle.graft_model.specs.Setups.{Setup, PeeringSetup, keepalive_interval_of, routers_in, peerings_in}
use Rattle.actor_configs.specs.Says.{bytes_to_say, say_by}
use Rattle.actor_configs.specs.declared.far.FarConfig.{FarConfig}

-- A configuration is that of a peering of a laboratory.
pub record IsFarConfigOf (setup : Setup) (config : FarConfig) : Type 0 where
  pub peering : PeeringSetup
  pub is : slice_get setup.peerings config.peering.0 ≡ Some peering
  pub routers : config.routers ≡ routers_in setup
  pub few : config.routers ≤ 256
  pub peerings : config.peerings ≡ peerings_in setup
  pub pointer : config.pointer.0 ≡ peering.start
  pub known : peering.start < routers_in setup
  pub sends : config.send_first ≡ peering.config.receive_first
  pub receives : config.receive_first ≡ peering.config.send_first
  pub opening : config.opening ≡ peering.opening
  pub short : length config.opening ≤ 4096
  pub says : (step : ℕ) → bytes_to_say config.says step ≡ say_by config.peering.0 (slice_get setup.steps step)
  pub beat : config.beat ≡ keepalive_interval_of peering
