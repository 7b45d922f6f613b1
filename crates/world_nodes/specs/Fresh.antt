-- An actor that has done nothing yet, by what it keeps beside its part of the world.
use Rattle.std.specs.Prelude.{ℕ, ◌≡◌, List, [], Option, Some, option_map, slice_get}
use Rattle.link_bag.specs.declared.plan.Fault.{Fault}
use Rattle.link_bag.specs.Planned.{fate_in, fate_of}
use Rattle.tcp_seq.specs.declared.segment.Way.{Way}
use Rattle.bgp_session.specs.Running.{RunningSession}
use Rattle.router_core.specs.declared.place.Errand.{Errand}
use Rattle.graft_model.specs.Setups.{Setup, keepalive_interval_of}
use Rattle.router_core.specs.Places.{RunsAt}
use Rattle.router_core.specs.declared.router as routers
use Rattle.far_side.specs.Parts.{HasLinks}
use Rattle.far_side.specs.declared.far as fars
use Rattle.world_nodes.specs.declared.node.Node.{Node}
use Rattle.world_nodes.specs.declared.node.Node.TheVariants.{Router, Far, Operator}

-- no turn was made, and no session has had a retransmission turn
pub record IsFreshRouter (router : routers.Router.Router) : Type 0 where
  pub turns : router.fields.turns ≡ 0
  pub at_turn : (p : ℕ) (s : RunningSession) (o : Option Errand) → RunsAt router.fields.places.places p s o → s.acked_at_turn ≡ 0

-- No turn was made, both links are the peering's and nothing was put into them, the timer is the peering's, and the plan has the fates of these faults.
pub record IsFreshFar (setup : Setup) (faults : List Fault) (far : fars.Far.Far) : Type 0 where
  pub turns : far.fields.turns ≡ 0
  pub at_turn : far.fields.remote.at_turn ≡ 0
  pub links : HasLinks far.fields
  pub homeward : (far.fields.homeward.plans ≡ []) × (far.fields.homeward.put ≡ 0)
  pub remoteward : (far.fields.remoteward.plans ≡ []) × (far.fields.remoteward.put ≡ 0)
  pub keepalive_interval : option_map keepalive_interval_of (slice_get setup.peerings far.fields.peering.0) ≡ Some far.fields.keepalive_interval
  pub fates : (way : Way) (segment : ℕ) → fate_in far.fields.plan far.fields.peering way segment ≡ fate_of faults far.fields.peering way segment

abbrev pub IsFresh : Setup → List Fault → Node → Type 0
IsFresh setup faults (Router router) = IsFreshRouter router
IsFresh setup faults (Far far) = IsFreshFar setup faults far
IsFresh setup faults (Operator operator) = Unit {0}
