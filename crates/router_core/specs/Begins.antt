-- How a router begins.
use Rattle.std.specs.Prelude.{ℕ, ◌≡◌, Option}
use Rattle.router_core.specs.declared.place.Errand.{Errand}
use Rattle.bgp_session.specs.Running.{RunningSession}
use Rattle.graft_model.specs.First.{first_router}
use Rattle.graft_model.specs.Setups.{Setup}
use Rattle.graft_actors.specs.Actors.{Router, RouterIs}
use Rattle.router_core.specs.Parts.{own_part, RouterInvariant}
use Rattle.router_core.specs.Places.{RunsAt}
use Rattle.actor_configs.specs.declared.router.RouterConfig.{RouterConfig}
use Rattle.router_core.specs.declared.fields.Fields.{Fields}

-- The fields are the router of its number in the first world, before its first turn, and none of its sessions has had a retransmission turn.
pub record BeginsAs (setup : Setup) (config : RouterConfig) (f : Fields) : Type 0 where
  pub is : own_part f ≡ record { setup = setup; name = Router config.number.0; part = RouterIs (first_router setup config.number.0) }
  pub turns : f.turns ≡ 0
  pub at_turn : (p : ℕ) (s : RunningSession) (o : Option Errand) → RunsAt f.places.places p s o → s.acked_at_turn ≡ 0
  pub keeps : RouterInvariant f
