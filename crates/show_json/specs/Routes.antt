-- Routes with all attributes, before and after policies, as JSON.
use Rattle.std.specs.Prelude.{ℕ, ◌+◌, List, [], ◌∷◌, Option, Some, None, option_map, codes, is_some, slice_get, if◌then◌else◌}
use Rattle.std.specs.FinMap as table
use Rattle.std.specs.List.{flat_map}
use Rattle.serde_json.specs.Data.{Data, null, string}
use Rattle.bgp_types.specs.Prefixes.{PrefixValue}
use Rattle.bgp_types.specs.Texts.{prefix_text}
use Rattle.bgp_types.specs.declared.attrs.Attrs.{Attrs}
use Rattle.bgp_types.specs.declared.attrs.Route.{Route}
use Rattle.bgp_types.specs.declared.message.SessionState.{SessionState}
use Rattle.bgp_story.specs.Readings.{Routes}
use Rattle.bgp_story.specs.declared.line.Line.{Line}
use Rattle.route_policy.specs.Candidates.{imported}
use Rattle.route_policy.specs.Rules.{holds_as}
use Rattle.lab_tables.specs.declared.input.LabInput.{LabInput}
use Rattle.lab_tables.specs.declared.input.PeeringInput.{PeeringInput}
use Rattle.lab_tables.specs.declared.input.RouterInput.{RouterInput}
use Rattle.lab_report.specs.declared.lab.BestEntry.{BestEntry}
use Rattle.lab_report.specs.declared.lab.Lab.{Lab}
use Rattle.why_view.specs.Sources.{import_rules, session_route}
use Rattle.show_view.specs.Routes.{best_in, denying_rule}
use Rattle.show_view.specs.Untold.{best_of, is_established, out_side, why_untold}
use Rattle.show_view.specs.declared.untold.Untold.{Untold}
use Rattle.show_view.specs.declared.untold.Untold.TheVariants.{CameFromIt, ThroughItsAs, Denied, TooLong, NotYet}
use Rattle.report_json.specs.Run.{from_json}
use Rattle.report_json.specs.Values.{count, count_or_null, text_or_null, fields}
use Rattle.message_json.specs.Attrs.{attrs_json}

-- the number of a rule, from 1
abbrev pub rule_number : Option ℕ → Data
rule_number index = count_or_null (option_map (λ i. i + 1) index)

-- a best route: where it comes from, its preference and all its attributes
abbrev pub best_json : LabInput → BestEntry → Data
best_json input b = fields
    ((codes "attrs", attrs_json b.route.attrs) ∷ (codes "from", from_json input b.from) ∷ (codes "pref", count b.route.pref)
    ∷ (codes "prefix", string (prefix_text b.prefix)) ∷ [])

-- a route of which only attributes are said
abbrev pub entry_json : PrefixValue × Attrs → Data
entry_json e = fields ((codes "attrs", attrs_json e.1) ∷ (codes "prefix", string (prefix_text e.0)) ∷ [])

-- ---- what a session heard

-- what was made of a route that was heard: what is left of it, and the policy and its rule that denied it
abbrev pub import_json : (result : List ℕ) → (attrs pref policy rule : Data) → Data
import_json result attrs pref policy rule = fields
    ((codes "attrs", attrs) ∷ (codes "policy", policy) ∷ (codes "pref", pref) ∷ (codes "result", string result) ∷ (codes "rule", rule) ∷ [])

abbrev pub looped_json : Data
looped_json = import_json (codes "looped") null null null null

abbrev pub denied_json : RouterInput → PeeringInput → PrefixValue × Attrs → Data
denied_json router p e =
    import_json (codes "denied") null null (text_or_null p.«import») (rule_number (denying_rule (import_rules router p.«import») e))

-- A route that was kept out: a path with the home AS is a loop (RFC 4271, section 9.1.2); else the import policy denied it.
abbrev pub kept_out_json : LabInput → RouterInput → PeeringInput → PrefixValue × Attrs → Data
kept_out_json input router p e = if holds_as e.1.path input.home_as then looped_json else denied_json router p e

abbrev pub accepted_json : Route → Data
accepted_json route = import_json (codes "accepted") (attrs_json route.attrs) (count route.pref) null null

-- what was let in of a route that was heard
abbrev pub let_in_json : LabInput → RouterInput → PeeringInput → PrefixValue × Attrs → Option Route → Data
let_in_json input router p e None = kept_out_json input router p e
let_in_json input router p e (Some route) = accepted_json route

-- What the import policy makes of it at the router that holds the session. A session on its way is at none.
abbrev pub imported_json : LabInput → Option (ℕ × RouterInput) → ℕ × PeeringInput → List Line → PrefixValue × Attrs → Data
imported_json input None p lines e = null
imported_json input (Some router) p lines e =
    let_in_json input router.1 p.1 e (imported input.home_as e.0 (session_route input router.1 e.0 p lines) (Some e.1))

-- a route before the import policy, with what was made of it
abbrev pub heard_with : PrefixValue × Attrs → (made : Data) → Data
heard_with e made = fields ((codes "attrs", attrs_json e.1) ∷ (codes "import", made) ∷ (codes "prefix", string (prefix_text e.0)) ∷ [])

abbrev pub heard_json : LabInput → Option (ℕ × RouterInput) → ℕ × PeeringInput → List Line → PrefixValue × Attrs → Data
heard_json input holder p lines e = heard_with e (imported_json input holder p lines e)

-- ---- why a best route isn't told

abbrev pub untold_word : Untold → List ℕ
untold_word CameFromIt = codes "came from it"
untold_word ThroughItsAs = codes "its AS in the path"
untold_word (Denied rule) = codes "denied"
untold_word TooLong = codes "longer than a message"
untold_word NotYet = codes "not yet"

-- the remote's AS, where it is in the path
abbrev pub untold_as : PeeringInput → Untold → Data
untold_as p CameFromIt = null
untold_as p ThroughItsAs = count p.remote_as
untold_as p (Denied rule) = null
untold_as p TooLong = null
untold_as p NotYet = null

-- the export policy and its rule, where they deny it
abbrev pub untold_policy : PeeringInput → Untold → Data
untold_policy p CameFromIt = null
untold_policy p ThroughItsAs = null
untold_policy p (Denied rule) = text_or_null p.export
untold_policy p TooLong = null
untold_policy p NotYet = null

abbrev pub untold_rule : Untold → Data
untold_rule CameFromIt = null
untold_rule ThroughItsAs = null
untold_rule (Denied rule) = rule_number rule
untold_rule TooLong = null
untold_rule NotYet = null

abbrev pub untold_json : PeeringInput → PrefixValue → Untold → Data
untold_json p prefix why = fields
    ((codes "as", untold_as p why) ∷ (codes "policy", untold_policy p why) ∷ (codes "prefix", string (prefix_text prefix))
    ∷ (codes "rule", untold_rule why) ∷ (codes "why", string (untold_word why)) ∷ [])

-- a best route of the router that holds the session, where nothing is told of its prefix
abbrev pub unless_told : LabInput → RouterInput → ℕ × PeeringInput → (told : Routes) → BestEntry → List Data
unless_told input router p told b =
    if is_some (table.get told b.prefix) then []
    else untold_json p.1 b.prefix (why_untold input.home_as (out_side router p) b.prefix (best_of b)) ∷ []

-- A session that isn't established is told nothing at all, and one on its way is at no router.
abbrev pub all_untold : Lab → Option (ℕ × RouterInput) → ℕ × PeeringInput → SessionState → (told : Routes) → List Data
all_untold lab None p state told = []
all_untold lab (Some router) p state told =
    if is_established state then flat_map (unless_told lab.input router.1 p told) (best_in (slice_get lab.tables router.0)) else []
