-- What is told on a session never has the AS of its remote.
use Rattle.std.specs.Prelude.{ℕ, ◌≡◌, ◌≢◌, false, Some}
use Rattle.std.specs.FinMap as map
use Rattle.bgp_types.specs.declared.attrs.Attrs.{Attrs}
use Rattle.bgp_types.specs.Prefixes.{PrefixValue}
use Rattle.route_policy.specs.Rules.{holds_as}
use Rattle.session_value.specs.Sessions.{SessionValue}
use Rattle.graft_model.specs.Setups.{Setup}
use Rattle.graft_model.specs.Parts.{World}
use Rattle.graft_laws.specs.Phases.{Phase}

-- If the remote is in another AS than the home routers, no path that was told on the session has the remote's AS, in any world and phase.
pub record AvoidsRemote (setup : Setup) (w : World) (p : ℕ) (phase : Phase) (session : SessionValue) : Type 0 where
  pub avoids : setup.home_as ≢ session.config.remote_as → (x : PrefixValue) (attrs : Attrs) → map.get session.adj_rib_out x ≡ Some attrs
      → holds_as attrs.path session.config.remote_as ≡ false
