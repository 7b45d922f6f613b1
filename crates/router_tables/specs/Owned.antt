-- What belongs to a peering at a router: its session, its grafts and its entries.
use Rattle.std.specs.Prelude.{ℕ, ◌≡◌, ◌<◌, false, is_some}
use Rattle.std.specs.FinMap as map
use Rattle.bgp_types.specs.Prefixes.{PrefixValue}
use Rattle.session_value.specs.Sessions.{SessionValue}
use Rattle.session_value.specs.Sets.{Entries}
use Rattle.graft_steps.specs.declared.order.GraftIds.{GraftIds}
use Rattle.graft_model.specs.Setups.{Setup, routers_in}
use Rattle.graft_actors.specs.Items.{home_first, remote_first}

-- A session belongs to its peering: it has the number of the peering, and its initial sequence numbers.
pub record IsOfPeering (setup : Setup) (p : ℕ) (session : SessionValue) : Type 0 where
  pub peering : session.config.peering.0 ≡ p
  pub sends : session.config.send_first.0 ≡ home_first setup p
  pub receives : session.config.receive_first.0 ≡ remote_first setup p

-- the graft is one of this router's, for this peering and an existing target
pub record IsGraftOf (setup : Setup) (r p : ℕ) (ids : GraftIds) : Type 0 where
  pub peering : ids.peering.0 ≡ p
  pub source : ids.source.0 ≡ r
  pub target : ids.target.0 < routers_in setup

-- a session of this peering has landed at this router in the graft, from an existing router
pub record IsLandingOf (setup : Setup) (r p : ℕ) (ids : GraftIds) : Type 0 where
  pub peering : ids.peering.0 ≡ p
  pub source : ids.source.0 < routers_in setup
  pub target : ids.target.0 ≡ r

abbrev pub HasNoEntry : Entries → Type 0
HasNoEntry entries = (x : PrefixValue) → is_some (map.get entries x) ≡ false
