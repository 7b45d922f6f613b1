-- Where packets go at the end of a run, by the best routes that its lab shows.
use Rattle.std.specs.Prelude.{ℕ, ◌≡◌, ◌<◌, []}
use Rattle.graft_edge.specs.declared.ids.PeeringId.{PeeringId}
use Rattle.graft_edge.specs.declared.ids.RouterId.{RouterId}
use Rattle.bgp_types.specs.Prefixes.{PrefixValue}
use Rattle.forward_walk.specs.Solved.{TwoRoutersAtMost}
use Rattle.forward_walk.specs.Walks.{WalksTo}
use Rattle.forward_walk.specs.declared.walk.Walk.{Walk}
use Rattle.forward_walk.specs.declared.walk.Walk.TheVariants.{Leaves}
use Rattle.graft_model.specs.OperatorRows.{placement}
use Rattle.graft_model.specs.Parts.{World}
use Rattle.graft_model.specs.Setups.{Setup, routers_in}
use Rattle.lab_report.specs.Traces.{forward_maps_of}
use Rattle.lab_report.specs.declared.lab.Lab.{Lab}

-- The walk of a packet to this address that starts at router `from`. It meets at most two routers, none of them twice, and
-- goes by the longest prefix for the address that any router has. Where it leaves the home network, it does so at the router
-- at which the operator's log puts the session of that peering.
pub record LeavesAtPlacement (lab : Lab) (setup : Setup) (w : World) (address : ℕ) (from : RouterId) (walk : Walk) : Type 0 where
  pub two : TwoRoutersAtMost (forward_maps_of lab) address from walk
  pub leaves : (r : RouterId) (p : PeeringId) (prefix : PrefixValue) → walk ≡ Leaves r p prefix → r.0 ≡ placement setup w.operator p.0

-- So goes each packet of the home network, to whatever address and from whichever router.
abbrev pub Forwards : Lab → Setup → World → Type 0
Forwards lab setup w = (address : ℕ) (from : RouterId) (walk : Walk) → from.0 < routers_in setup → WalksTo (forward_maps_of lab) address [] from walk
    → LeavesAtPlacement lab setup w address from walk
