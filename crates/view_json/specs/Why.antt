-- Why a router has the best route to a prefix that it has, as JSON.
use Rattle.std.specs.Prelude.{ℕ, ◌+◌, List, [], ◌∷◌, Option, Some, None, option_map, option_and_then, codes, slice_get, if◌then◌else◌}
use Rattle.std.specs.List.{flat_map, enumerate_from}
use Rattle.serde_json.specs.Data.{Data, null, boolean, string}
use Rattle.bgp_types.specs.Prefixes.{PrefixValue}
use Rattle.bgp_types.specs.Texts.{address_text, prefix_text}
use Rattle.bgp_types.specs.declared.attrs.Attrs.{Attrs}
use Rattle.bgp_types.specs.declared.attrs.Route.{Route}
use Rattle.bgp_types.specs.declared.rank.Rank.{Rank}
use Rattle.route_policy.specs.Candidates.{SessionRoute, Candidate, imported}
use Rattle.route_policy.specs.Rules.{holds_as}
use Rattle.lab_tables.specs.declared.input.LabInput.{LabInput}
use Rattle.lab_tables.specs.declared.input.RouterInput.{RouterInput}
use Rattle.lab_report.specs.declared.lab.Lab.{Lab}
use Rattle.lab_report.specs.Report.{router_name, peering_name}
use Rattle.report_json.specs.Run.{from_json, path_json}
use Rattle.report_json.specs.Values.{count, count_or_null, text_or_null, list_of, fields, version}
use Rattle.why_view.specs.Rules.{in_order, goes_at, rule_number, rule_name}
use Rattle.why_view.specs.Sources.{sessions_at, candidates_at}
use Rattle.why_view.specs.Why.{origin_text, matching}
use Rattle.why_view.specs.Winners.{ranks_of, best_index, is_index, winner}
use Rattle.why_view.specs.declared.rules.DecisionRule.{DecisionRule}

-- ---- candidates

-- a candidate: where it comes from, its path, and what the nine rules compare
abbrev pub candidate_json : LabInput → Candidate → Data
candidate_json input c = fields
    ((codes "address", string (address_text c.1.address)) ∷ (codes "cost", count c.1.cost) ∷ (codes "external", boolean c.1.external)
    ∷ (codes "from", from_json input c.0.from) ∷ (codes "identifier", string (address_text c.1.identifier)) ∷ (codes "med", count c.1.med)
    ∷ (codes "neighbour", count c.1.neighbour) ∷ (codes "origin", string (origin_text c.1.origin)) ∷ (codes "own", boolean c.1.own)
    ∷ (codes "path", path_json c.0.route.attrs.path) ∷ (codes "path_length", count c.1.path_len) ∷ (codes "pref", count c.1.pref) ∷ [])

abbrev pub best_json : LabInput → Option Candidate → Data
best_json input None = null
best_json input (Some c) = candidate_json input c

-- the rule at which a candidate went; none of the nine where it is equal to the best by all of them
abbrev pub rule_json : Option DecisionRule → Data
rule_json None = null
rule_json (Some rule) = fields ((codes "name", string (rule_name rule)) ∷ (codes "number", count (rule_number rule)) ∷ [])

-- a candidate that isn't the best, with the rule at which it went
abbrev pub lost_json : LabInput → List Rank → Candidate → Data
lost_json input ranks c = fields ((codes "candidate", candidate_json input c) ∷ (codes "rule", rule_json (goes_at in_order ranks c.1)) ∷ [])

-- a numbered candidate is among the others, unless it is the best
abbrev pub unless_best : LabInput → List Rank → (best : Option ℕ) → ℕ × Candidate → List Data
unless_best input ranks best c = if is_index best c.0 then [] else lost_json input ranks c.1 ∷ []

abbrev pub others_json : LabInput → List Candidate → Data
others_json input found = list_of (flat_map (unless_best input (ranks_of found) (best_index found)) (enumerate_from 0 found))

-- ---- routes that were heard and are no candidates

-- the name of a peering's import policy, if it has one
abbrev pub import_json : LabInput → ℕ → Data
import_json input p = text_or_null (option_and_then (λ peering. peering.«import») (slice_get input.peerings p))

-- a route that was heard and excluded: by what, from which peering, its path, and the policy and its rule that denied it
abbrev pub excluded_json : LabInput → (by : List ℕ) → SessionRoute → Attrs → (policy rule : Data) → Data
excluded_json input by session heard policy rule = fields
    ((codes "by", string by) ∷ (codes "path", path_json heard.path) ∷ (codes "peering", string (peering_name input session.peering.0))
    ∷ (codes "policy", policy) ∷ (codes "rule", rule) ∷ [])

-- a path with the home AS is a loop (RFC 4271, section 9.1.2)
abbrev pub looped_json : LabInput → SessionRoute → Attrs → Data
looped_json input session heard = excluded_json input (codes "loop") session heard null null

-- the first rule of the import policy that matches denies it; rules are numbered from 1
abbrev pub denied_json : LabInput → PrefixValue → SessionRoute → Attrs → Data
denied_json input prefix session heard = excluded_json input (codes "policy") session heard
    (import_json input session.peering.0) (count_or_null (option_map (λ index. index + 1) (matching prefix session heard)))

-- a route that was heard and not let in
abbrev pub kept_out_json : LabInput → PrefixValue → SessionRoute → Attrs → Data
kept_out_json input prefix session heard =
    if holds_as heard.path input.home_as then looped_json input session heard else denied_json input prefix session heard

-- a route that was heard, of which this was let in
abbrev pub excluded_route : LabInput → PrefixValue → SessionRoute → Option Attrs → Option Route → List Data
excluded_route input prefix session None route = []
excluded_route input prefix session (Some heard) (Some route) = []
excluded_route input prefix session (Some heard) None = kept_out_json input prefix session heard ∷ []

abbrev pub excluded_of : LabInput → PrefixValue → SessionRoute → List Data
excluded_of input prefix session = excluded_route input prefix session session.heard (imported input.home_as prefix session session.heard)

-- ---- the whole

-- what a router of this name has for a prefix
abbrev pub why_object : PrefixValue → (router : List ℕ) → (best lost excluded : Data) → Data
why_object prefix router best lost excluded = fields
    ((codes "best", best) ∷ (codes "excluded", excluded) ∷ (codes "job", string (codes "why")) ∷ (codes "lost", lost)
    ∷ (codes "prefix", string (prefix_text prefix)) ∷ (codes "router", string router) ∷ (codes "version", version) ∷ [])

abbrev pub why_fields : LabInput → PrefixValue → (router : List ℕ) → List Candidate → List SessionRoute → Data
why_fields input prefix router found sessions =
    why_object prefix router (best_json input (winner found)) (others_json input found) (list_of (flat_map (excluded_of input prefix) sessions))

abbrev pub why_if_there : Lab → PrefixValue → ℕ → Option RouterInput → Data
why_if_there lab prefix r None = why_fields lab.input prefix (router_name lab.input r) [] []
why_if_there lab prefix r (Some router) =
    why_fields lab.input prefix router.name (candidates_at lab (r, router) prefix) (sessions_at lab (r, router) prefix)

-- its candidates, the best one apart, and what its sessions heard of the prefix and was excluded; nothing of a router that the input hasn't
abbrev pub why_json : Lab → (router : ℕ) → PrefixValue → Data
why_json lab r prefix = why_if_there lab prefix r (slice_get lab.input.routers r)
