-- The mesh that a world's routers are for one prefix.
use Rattle.bgp_types.specs.Prefixes.{PrefixValue}
use Rattle.graft_model.specs.Setups.{Setup, router_numbers, identifier_of, cost_between, has_network}
use Rattle.graft_model.specs.Parts.{World}
use Rattle.graft_model.specs.Claims.{session_routes}
use Rattle.even_meshes.specs.Meshes.{PrefixMesh}

-- Networks, identifiers and costs are the laboratory's; the sessions at each router, and what they heard, are those of the world.
abbrev pub prefix_mesh : Setup → World → PrefixValue → PrefixMesh
prefix_mesh setup w prefix = record {
  home_as = setup.home_as;
  prefix = prefix;
  routers = router_numbers setup;
  has_network = λ r. has_network setup r prefix;
  sessions = λ r. session_routes setup w r prefix;
  identifier = identifier_of setup;
  cost = cost_between setup;
}
