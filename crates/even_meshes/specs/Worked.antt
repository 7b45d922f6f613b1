-- Two routers that each have a route of AS 1 and one of AS 2, with MEDs that cross: the first router's route of AS 1 has a lower MED than the second
-- one's, and the second one's route of AS 2 a lower MED than the first one's. In one solution, the first router tells its route of AS 1 and the
-- second one its route of AS 2, and each of these eliminates the other router's route of its AS by MED. In the other solution, each router chooses
-- the route that was eliminated in the first, which has the lower BGP Identifier of its two, and tells it; the other router eliminates what it is
-- told by MED. Both solutions fit all choices.
use Rattle.std.specs.Prelude.{ℕ, ◌==◌, ◌+◌, false, [], ◌∷◌, Option, Some, None, if◌then◌else◌}
use Rattle.bgp_types.specs.declared.attrs.Attrs.{Attrs}
use Rattle.bgp_types.specs.declared.attrs.Origin.TheVariants.{Igp}
use Rattle.bgp_types.specs.declared.path.PathPart.TheVariants.{Sequence}
use Rattle.bgp_types.specs.declared.rank.From.TheVariants.{Peering}
use Rattle.route_policy.specs.declared.best.Best.{Best}
use Rattle.route_policy.specs.Candidates.{SessionRoute}
use Rattle.even_meshes.specs.Meshes.{PrefixMesh}

-- a route of one AS with this MED; otherwise all are alike
abbrev pub with_med : (as_number med : ℕ) → Attrs
with_med as_number med = record {
  origin = Igp;
  path = Sequence (as_number ∷ []) ∷ [];
  next_hop = 1;
  med = Some med;
  atomic = false;
  aggregator = None;
  unknown = [];
}

-- a session over peering p with a remote of this AS and BGP Identifier, which heard a route with this MED
abbrev pub from_remote : (p as_number med identifier : ℕ) → SessionRoute
from_remote p as_number med identifier = record {
  peering = record { 0 = p };
  remote_as = as_number;
  identifier = identifier;
  address = identifier;
  import_rules = None;
  heard = Some (with_med as_number med);
}

-- peerings 0 and 1 are of AS 1 and AS 2 at router 0, and peerings 2 and 3 of AS 1 and AS 2 at router 1
abbrev pub crossed : PrefixMesh
crossed = record {
  home_as = 9;
  prefix = record { address = 0; len = 0 };
  routers = 0 ∷ 1 ∷ [];
  has_network = λ r. false;
  sessions = λ r. if r == 0 then from_remote 0 1 0 2 ∷ from_remote 1 2 1 1 ∷ [] else from_remote 2 1 1 3 ∷ from_remote 3 2 0 4 ∷ [];
  identifier = λ r. 100 + r;
  cost = λ r q. 1;
}

-- a best route over peering p
abbrev pub over : (p as_number med : ℕ) → Option Best
over p as_number med = Some (record { from = Peering (record { 0 = p }); route = record { attrs = with_med as_number med; pref = 100 } })

-- one solution: the routes with MED 0 are the best ones
abbrev pub one_way : ℕ → Option Best
one_way r = if r == 0 then over 0 1 0 else over 3 2 0

-- the other solution: the routes with MED 1 are the best ones
abbrev pub other_way : ℕ → Option Best
other_way r = if r == 0 then over 1 2 1 else over 2 1 1
