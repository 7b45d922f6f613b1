-- The lines of routes: a router's best ones; and those that a session heard, before and after its import policy.
use Rattle.std.specs.Prelude.{ℕ, List, [], ◌++◌, Option, Some, None, true, unwrap_or, codes, decimal, if◌then◌else◌}
use Rattle.bgp_types.specs.Prefixes.{PrefixValue}
use Rattle.bgp_types.specs.Texts.{prefix_text}
use Rattle.bgp_types.specs.declared.attrs.Attrs.{Attrs}
use Rattle.bgp_types.specs.declared.attrs.Route.{Route}
use Rattle.bgp_story.specs.declared.line.Line.{Line}
use Rattle.route_policy.specs.Candidates.{imported}
use Rattle.route_policy.specs.Rules.{holds_as}
use Rattle.route_policy.specs.declared.rule.Rule.{Rule}
use Rattle.lab_tables.specs.declared.input.LabInput.{LabInput}
use Rattle.lab_tables.specs.declared.input.PeeringInput.{PeeringInput}
use Rattle.lab_tables.specs.declared.input.RouterInput.{RouterInput}
use Rattle.lab_report.specs.declared.lab.BestEntry.{BestEntry}
use Rattle.lab_report.specs.declared.lab.RouterTable.{RouterTable}
use Rattle.lab_report.specs.Report.{from_text, line_end}
use Rattle.message_words.specs.Updates.{attrs_words}
use Rattle.why_view.specs.Sources.{import_rules, session_route}
use Rattle.why_view.specs.Why.{first_match, number_text}

-- ---- words

-- what is said of a route, the name of its router or peering, and its prefix
abbrev pub route_start : (what name : List ℕ) → PrefixValue → List ℕ
route_start what name prefix = what ++ codes " " ++ name ++ codes " " ++ prefix_text prefix

-- a line of a route, with further words, each behind a space
abbrev pub route_line : (what name : List ℕ) → PrefixValue → (words : List ℕ) → List ℕ
route_line what name prefix words = route_start what name prefix ++ words ++ line_end

-- its preference and all its attributes
abbrev pub route_words : Route → List ℕ
route_words route = codes " pref " ++ decimal route.pref ++ attrs_words true route.attrs

-- the number of a rule, and the name of its policy
abbrev pub rule_words : Option ℕ → (policy : Option (List ℕ)) → List ℕ
rule_words index policy = codes " rule " ++ number_text index ++ codes " of " ++ unwrap_or policy (codes "-")

-- ---- best routes

abbrev pub best_in : Option RouterTable → List BestEntry
best_in None = []
best_in (Some table) = table.best

-- a best route: where it comes from, its preference and all its attributes
abbrev pub best_line : LabInput → (name : List ℕ) → BestEntry → List ℕ
best_line input name b = route_line (codes "best") name b.prefix (codes " " ++ from_text input b.from ++ route_words b.route)

-- ---- what a session heard

-- with the attributes as they were heard
abbrev pub heard_line : (name : List ℕ) → PrefixValue × Attrs → List ℕ
heard_line name e = route_line (codes "heard") name e.0 (attrs_words true e.1)

-- the first rule of the import policy that matches it
abbrev pub denying_rule : Option (List Rule) → PrefixValue × Attrs → Option ℕ
denying_rule rules e = first_match (unwrap_or rules []) e.0 e.1

-- A route that was kept out: a path with the home AS is a loop (RFC 4271, section 9.1.2); else the import policy denied it.
abbrev pub kept_out_line : LabInput → RouterInput → PeeringInput → PrefixValue × Attrs → List ℕ
kept_out_line input router p e =
    if holds_as e.1.path input.home_as then route_line (codes "looped") p.name e.0 (codes " own AS in the path")
    else route_line (codes "denied") p.name e.0 (rule_words (denying_rule (import_rules router p.«import») e) p.«import»)

-- what was let in of a route that was heard
abbrev pub let_in_line : LabInput → RouterInput → PeeringInput → PrefixValue × Attrs → Option Route → List ℕ
let_in_line input router p e None = kept_out_line input router p e
let_in_line input router p e (Some route) = route_line (codes "accepted") p.name e.0 (route_words route)

-- What the import policy makes of it at the router that holds the session. A session on its way is at none.
abbrev pub import_line : LabInput → Option (ℕ × RouterInput) → ℕ × PeeringInput → List Line → PrefixValue × Attrs → List ℕ
import_line input None p lines e = []
import_line input (Some router) p lines e =
    let_in_line input router.1 p.1 e (imported input.home_as e.0 (session_route input router.1 e.0 p lines) (Some e.1))

-- a route before and after the import policy
abbrev pub heard_lines : LabInput → Option (ℕ × RouterInput) → ℕ × PeeringInput → List Line → PrefixValue × Attrs → List ℕ
heard_lines input holder p lines e = heard_line p.1.name e ++ import_line input holder p lines e
