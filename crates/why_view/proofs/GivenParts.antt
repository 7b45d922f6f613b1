-- What sessions and other routers give, part by part.
use Rattle.std.proofs.Common.{◌≡◌, ℕ, Bool, true, false, cond, List, [], ◌∷◌, Option, sym, ap, ◌∙◌}
use Rattle.std.specs.Prelude.{◌==◌, slice_get}
use Rattle.std.specs.FinMap as map
use Rattle.graft_edge.specs.declared.ids.PeeringId.{PeeringId}
use Rattle.bgp_types.specs.Prefixes.{PrefixValue}
use Rattle.bgp_types.specs.declared.attrs.Attrs.{Attrs}
use Rattle.bgp_types.specs.declared.attrs.Route.{Route}
use Rattle.bgp_story.specs.declared.line.Line.{Line}
use Rattle.bgp_story.specs.Readings.{heard}
use Rattle.route_policy.specs.Candidates.{SessionRoute, RouterRoute}
use Rattle.route_policy.specs.declared.rule.Rule.{Rule}
use Rattle.lab_tables.specs.declared.input.LabInput.{LabInput}
use Rattle.lab_tables.specs.declared.input.PeeringInput.{PeeringInput}
use Rattle.lab_tables.specs.declared.input.RouterInput.{RouterInput}
use Rattle.lab_report.specs.declared.lab.Lab.{Lab}
use Rattle.lab_report.specs.declared.lab.Place.{Place}
use Rattle.lab_report.specs.declared.lab.SessionView.{SessionView}
use Rattle.why_view.specs.Sources.{import_rules, interior_cost, is_at, route_of_view, router_at, session_at, session_route, told_in}
use Rattle.why_view.specs.Stories.{remote_identifier, story_peering}

-- ---- sessions

abbrev pub session_with : PeeringId → PeeringInput → (identifier : ℕ) → Option (List Rule) → Option Attrs → SessionRoute
session_with number p identifier rules attrs = record {
  peering = number;
  remote_as = p.remote_as;
  identifier = identifier;
  address = p.remote_address;
  import_rules = rules;
  heard = attrs;
}

pub session_is : (input : LabInput) (router : RouterInput) (prefix : PrefixValue) (number : PeeringId) (p : PeeringInput) (story : List Line)
    (identifier : ℕ) (rules : Option (List Rule)) (attrs : Option Attrs) → identifier ≡ remote_identifier (story_peering input p) story
    → rules ≡ import_rules router p.«import» → attrs ≡ map.get (heard (story_peering input p) story) prefix
    → session_with number p identifier rules attrs ≡ session_route input router prefix (number.0, p) story
session_is input router prefix number p story identifier rules attrs by_open by_name by_story =
    ap (λ i. session_with number p i rules attrs) by_open
    ∙ ap (λ rs. session_with number p (remote_identifier (story_peering input p) story) rs attrs) by_name
    ∙ ap (λ a. session_with number p (remote_identifier (story_peering input p) story) (import_rules router p.«import») a) by_story

module _ (lab : Lab) (router : ℕ × RouterInput) (prefix : PrefixValue) (p : ℕ × PeeringInput) where
  by_place : (here : Bool) → is_at router.0 (slice_get lab.placement p.0) ≡ here
      → session_at lab router prefix p ≡ cond here (route_of_view lab.input router.1 prefix p (slice_get lab.sessions p.0)) []
  by_place here is = ap (λ b. cond b (route_of_view lab.input router.1 prefix p (slice_get lab.sessions p.0)) []) is

  -- a session that is there, and one that is elsewhere
  pub session_there : (place : Option Place) (view : Option SessionView) (here : Bool) → here ≡ is_at router.0 place
      → place ≡ slice_get lab.placement p.0 → view ≡ slice_get lab.sessions p.0 → here ≡ true
      → route_of_view lab.input router.1 prefix p view ≡ session_at lab router prefix p
  session_there place view here is placed viewed there =
      ap (route_of_view lab.input router.1 prefix p) viewed
      ∙ sym (by_place true (ap (is_at router.0) (sym placed) ∙ sym is ∙ there))

  pub session_elsewhere : (place : Option Place) (here : Bool) → here ≡ is_at router.0 place → place ≡ slice_get lab.placement p.0
      → here ≡ false → session_at lab router prefix p ≡ []
  session_elsewhere place here is placed elsewhere = by_place false (ap (is_at router.0) (sym placed) ∙ sym is ∙ elsewhere)

-- ---- routers

abbrev pub router_with : ℕ × RouterInput → (cost : ℕ) → Option Route → RouterRoute
router_with q cost told = record { router = record { 0 = q.0 }; identifier = q.1.id; cost = cost; told = told }

module _ (lab : Lab) (r : ℕ) (prefix : PrefixValue) (q : ℕ × RouterInput) where
  by_test : (same : Bool) → (q.0 == r) ≡ same
      → router_at lab r prefix q ≡ cond same [] (router_with q (interior_cost lab.input.costs r q.0) (told_in (slice_get lab.tables r) q.0 prefix) ∷ [])
  by_test same is = ap (λ b. cond b [] (router_with q (interior_cost lab.input.costs r q.0) (told_in (slice_get lab.tables r) q.0 prefix) ∷ [])) is

  pub router_itself : (q.0 == r) ≡ true → router_at lab r prefix q ≡ []
  router_itself same = by_test true same

  pub router_is : (cost : ℕ) (told : Option Route) → (q.0 == r) ≡ false → cost ≡ interior_cost lab.input.costs r q.0
      → told ≡ told_in (slice_get lab.tables r) q.0 prefix → router_with q cost told ∷ [] ≡ router_at lab r prefix q
  router_is cost told other by_costs by_table =
      ap (λ c. router_with q c told ∷ []) by_costs ∙ ap (λ t. router_with q (interior_cost lab.input.costs r q.0) t ∷ []) by_table
      ∙ sym (by_test false other)
