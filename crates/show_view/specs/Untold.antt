-- What is told on a session, and what isn't, and why.
use Rattle.std.specs.Prelude.{ℕ, List, [], ◌++◌, position, Option, Some, None, unwrap_or, Bool, true, false, is_some, slice_get, codes, decimal, if◌then◌else◌}
use Rattle.std.specs.FinMap as map
use Rattle.std.specs.List.{flat_map}
use Rattle.bgp_types.specs.Prefixes.{PrefixValue}
use Rattle.bgp_types.specs.declared.attrs.Attrs.{Attrs}
use Rattle.bgp_types.specs.declared.attrs.Route.{Route}
use Rattle.bgp_types.specs.declared.message.SessionState.{SessionState}
use Rattle.bgp_types.specs.declared.message.SessionState.TheVariants.{OpenSent, OpenConfirm, Established, Closed}
use Rattle.bgp_story.specs.Readings.{Routes}
use Rattle.route_policy.specs.Rules.{holds_as, matches}
use Rattle.route_policy.specs.Telling.{OutSide, comes_from, exported, is_too_long, told_attrs, without_med}
use Rattle.route_policy.specs.declared.best.Best.{Best}
use Rattle.route_policy.specs.declared.rule.Rule.{Rule}
use Rattle.lab_tables.specs.declared.input.LabInput.{LabInput}
use Rattle.lab_tables.specs.declared.input.PeeringInput.{PeeringInput}
use Rattle.lab_tables.specs.declared.input.RouterInput.{RouterInput}
use Rattle.lab_report.specs.declared.lab.BestEntry.{BestEntry}
use Rattle.lab_report.specs.declared.lab.Lab.{Lab}
use Rattle.message_words.specs.Updates.{attrs_words}
use Rattle.why_view.specs.Sources.{import_rules}
use Rattle.show_view.specs.declared.untold.Untold.{Untold}
use Rattle.show_view.specs.declared.untold.Untold.TheVariants.{CameFromIt, ThroughItsAs, Denied, TooLong, NotYet}
use Rattle.show_view.specs.Routes.{best_in, route_line, rule_words}

-- ---- what is told

abbrev pub told_line : (name : List ℕ) → PrefixValue × Attrs → List ℕ
told_line name e = route_line (codes "told") name e.0 (attrs_words true e.1)

-- ---- why a best route isn't

-- what is told on the session of a peering depends on this, where the router holds it
abbrev pub out_side : RouterInput → ℕ × PeeringInput → OutSide
out_side router p = record {
  peering = record { 0 = p.0 };
  remote_as = p.1.remote_as;
  local_address = p.1.local_address;
  export_rules = import_rules router p.1.export;
}

abbrev pub best_of : BestEntry → Best
best_of b = record { from = b.from; route = b.route }

-- the first rule of the export policy that matches the route
abbrev pub matching_rule : Option (List Rule) → PrefixValue → Route → Option ℕ
matching_rule rules prefix route = position (λ rule. matches rule prefix (without_med route)) (unwrap_or rules [])

-- by what the export policy made of the route
abbrev pub if_exported : (home_as : ℕ) → OutSide → PrefixValue → Route → Option Route → Untold
if_exported home_as out prefix route None = Denied (matching_rule out.export_rules prefix route)
if_exported home_as out prefix route (Some left) = if is_too_long prefix (told_attrs home_as out left) then TooLong else NotYet

-- The first of these reasons that there is: it came from this peering; the remote's AS is in its path; the export policy denies it; its UPDATE would
-- be too long. Without any it is still to be told.
abbrev pub why_untold : (home_as : ℕ) → OutSide → PrefixValue → Best → Untold
why_untold home_as out prefix best =
    if comes_from best.from out.peering then CameFromIt
    else if holds_as best.route.attrs.path out.remote_as then ThroughItsAs
    else if_exported home_as out prefix best.route (exported home_as out prefix best.route)

abbrev pub untold_words : PeeringInput → Untold → List ℕ
untold_words p CameFromIt = codes " came from it"
untold_words p ThroughItsAs = codes " its AS " ++ decimal p.remote_as ++ codes " in the path"
untold_words p (Denied rule) = codes " denied by" ++ rule_words rule p.export
untold_words p TooLong = codes " longer than a message"
untold_words p NotYet = codes " not yet"

-- a best route of the router that holds the session, where nothing is told of its prefix
abbrev pub untold_line : LabInput → RouterInput → ℕ × PeeringInput → (told : Routes) → BestEntry → List ℕ
untold_line input router p told b =
    if is_some (map.get told b.prefix) then []
    else route_line (codes "untold") p.1.name b.prefix (untold_words p.1 (why_untold input.home_as (out_side router p) b.prefix (best_of b)))

abbrev pub is_established : SessionState → Bool
is_established OpenSent = false
is_established OpenConfirm = false
is_established Established = true
is_established Closed = false

-- A session that isn't established is told nothing at all, and one on its way is at no router.
abbrev pub untold_lines : Lab → Option (ℕ × RouterInput) → ℕ × PeeringInput → SessionState → (told : Routes) → List ℕ
untold_lines lab None p state told = []
untold_lines lab (Some router) p state told =
    if is_established state then flat_map (untold_line lab.input router.1 p told) (best_in (slice_get lab.tables router.0)) else []
