-- Where the best routes of the home routers come from, as forwarding sees it.
use Rattle.std.specs.Prelude.{ℕ, ◌<◌, List, map}
use Rattle.forward_laws.specs.Seen.{each_value}
use Rattle.forward_walk.specs.Tables.{ForwardMap}
use Rattle.session_value.specs.Sets.{BestRoutes}
use Rattle.graft_model.specs.Setups.{Setup, peerings_in, router_numbers}
use Rattle.graft_model.specs.Parts.{World}
use Rattle.graft_model.specs.Claims.{Transparent}

-- the source of the route to each prefix
abbrev pub froms_of : BestRoutes → ForwardMap
froms_of best = each_value (λ b. b.from) best

-- the same for all routers, in ascending order of number
abbrev pub forward_maps : Setup → World → List ForwardMap
forward_maps setup w = map (λ r. froms_of (w.router r).best) (router_numbers setup)

-- each peering of the laboratory has one session, which belongs to it
abbrev pub AllTransparent : Setup → World → Type 0
AllTransparent setup w = (p : ℕ) → p < peerings_in setup → Transparent setup w p
