-- What a router has for a prefix at the end of a run: its own network, what the sessions that it holds heard, and what the other routers told it.
use Rattle.std.specs.Prelude.{ℕ, ◌==◌, ◌&&◌, Bool, false, List, [], ◌∷◌, find, take, Option, Some, None, option_map, unwrap_or, slice_get, if◌then◌else◌}
use Rattle.std.specs.FinMap as map
use Rattle.std.specs.List.{list_any, flat_map, enumerate_from}
use Rattle.std.specs.Str.{bytes_eq}
use Rattle.bgp_types.specs.Prefixes.{PrefixValue, same_prefix}
use Rattle.bgp_types.specs.declared.attrs.Route.{Route}
use Rattle.bgp_story.specs.declared.line.Line.{Line}
use Rattle.bgp_story.specs.Readings.{heard}
use Rattle.route_policy.specs.Candidates.{SessionRoute, RouterRoute, Candidate, candidates}
use Rattle.route_policy.specs.declared.rule.Rule.{Rule}
use Rattle.lab_tables.specs.declared.input.CostInput.{CostInput}
use Rattle.lab_tables.specs.declared.input.LabInput.{LabInput}
use Rattle.lab_tables.specs.declared.input.PeeringInput.{PeeringInput}
use Rattle.lab_tables.specs.declared.input.RouterInput.{RouterInput}
use Rattle.lab_report.specs.declared.lab.Lab.{Lab}
use Rattle.lab_report.specs.declared.lab.Place.{Place}
use Rattle.lab_report.specs.declared.lab.Place.TheVariants.{Held, Moving}
use Rattle.lab_report.specs.declared.lab.RouterTable.{RouterTable}
use Rattle.lab_report.specs.declared.lab.SessionView.{SessionView}
use Rattle.lab_report.specs.Traces.{numbered_routers}
use Rattle.why_view.specs.Stories.{story_peering, remote_identifier}

-- ---- sessions

-- the rules of a router's policy of this name, if it has one
abbrev pub rules_named : RouterInput → List ℕ → Option (List Rule)
rules_named router name = option_map (λ policy. policy.rules) (find (λ policy. bytes_eq name policy.name) router.policies)

-- the rules that a router has for the name of a session's import policy; none if the session names no policy
abbrev pub import_rules : RouterInput → Option (List ℕ) → Option (List Rule)
import_rules router None = None
import_rules router (Some name) = rules_named router name

-- what the session of a peering, with this story, brings in at a router
abbrev pub session_route : LabInput → RouterInput → PrefixValue → ℕ × PeeringInput → List Line → SessionRoute
session_route input router prefix p story = record {
  peering = record { 0 = p.0 };
  remote_as = p.1.remote_as;
  identifier = remote_identifier (story_peering input p.1) story;
  address = p.1.remote_address;
  import_rules = import_rules router p.1.«import»;
  heard = map.get (heard (story_peering input p.1) story) prefix;
}

-- a session is at the router of this number
abbrev pub is_at : ℕ → Option Place → Bool
is_at r None = false
is_at r (Some (Held router)) = router.0 == r
is_at r (Some Moving) = false

abbrev pub route_of_view : LabInput → RouterInput → PrefixValue → ℕ × PeeringInput → Option SessionView → List SessionRoute
route_of_view input router prefix p None = []
route_of_view input router prefix p (Some view) = session_route input router prefix p view.story.lines ∷ []

-- what the session of a peering brings in at a router, if it is there; the router stands with its number
abbrev pub session_at : Lab → ℕ × RouterInput → PrefixValue → ℕ × PeeringInput → List SessionRoute
session_at lab router prefix p =
    if is_at router.0 (slice_get lab.placement p.0) then route_of_view lab.input router.1 prefix p (slice_get lab.sessions p.0) else []

-- The peerings with their numbers. A number is one octet, so there are 256 of them at most.
abbrev pub numbered_peerings : LabInput → List (ℕ × PeeringInput)
numbered_peerings input = enumerate_from 0 (take 256 input.peerings)

-- what the sessions at a router bring in, in ascending order of peering
abbrev pub sessions_at : Lab → ℕ × RouterInput → PrefixValue → List SessionRoute
sessions_at lab router prefix = flat_map (session_at lab router prefix) (numbered_peerings lab.input)

-- ---- other routers

-- the interior cost from one router to another: 1 where none is given
abbrev pub interior_cost : List CostInput → (from to : ℕ) → ℕ
interior_cost costs from to = unwrap_or (option_map (λ c. c.cost) (find (λ c. (c.from.0 == from) && (c.to.0 == to)) costs)) 1

-- what the router of this number told of a prefix
abbrev pub told_in : Option RouterTable → ℕ → PrefixValue → Option Route
told_in None q prefix = None
told_in (Some table) q prefix = option_map (λ e. e.route) (find (λ e. (e.router.0 == q) && same_prefix prefix e.prefix) table.heard)

-- what another router gives the router of number r
abbrev pub router_at : Lab → ℕ → PrefixValue → ℕ × RouterInput → List RouterRoute
router_at lab r prefix q =
    if q.0 == r then []
    else record {
      router = record { 0 = q.0 };
      identifier = q.1.id;
      cost = interior_cost lab.input.costs r q.0;
      told = told_in (slice_get lab.tables r) q.0 prefix;
    } ∷ []

-- what the other routers give it, in ascending order of number
abbrev pub routers_beside : Lab → ℕ → PrefixValue → List RouterRoute
routers_beside lab r prefix = flat_map (router_at lab r prefix) (numbered_routers lab.input)

-- ---- the whole

-- the candidates of a router for a prefix, between which it chooses (RFC 4271, section 9.1.2)
abbrev pub candidates_at : Lab → ℕ × RouterInput → PrefixValue → List Candidate
candidates_at lab router prefix = candidates lab.input.home_as prefix (list_any (same_prefix prefix) router.1.networks)
    (sessions_at lab router prefix) (routers_beside lab router.0 prefix)
