-- What a policy makes of a route.
use Rattle.std.specs.Prelude.{ℕ, List, [], ◌∷◌, Option, Some, None, unwrap_or, if◌then◌else◌}
use Rattle.std.specs.Option.{option_or}
use Rattle.bgp_types.specs.Prefixes.{PrefixValue}
use Rattle.bgp_types.specs.declared.attrs.Route.{Route}
use Rattle.route_policy.specs.Rules.{matches}
use Rattle.route_policy.specs.Paths.{prepend_times}
use Rattle.route_policy.specs.declared.rule.Rule.{Rule}

-- the route that a rule lets pass: the preference and the MED are set where the rule has them, and the AS is put in front of the path as often as it
-- says
abbrev pub changed : Rule → ℕ → Route → Route
changed rule as_number route = record {
  attrs = record route.attrs {
    path = prepend_times rule.prepend as_number route.attrs.path;
    med = option_or rule.med route.attrs.med;
  };
  pref = unwrap_or rule.pref route.pref;
}

-- what a rule that matches makes of a route: none if it denies it
abbrev pub decision : Rule → ℕ → Route → Option Route
decision rule as_number route = if rule.deny then None else Some (changed rule as_number route)

-- The first rule that matches decides. If none does, the route stays as it is.
abbrev pub policy : List Rule → PrefixValue → ℕ → Route → Option Route
policy [] prefix as_number route = Some route
policy (rule ∷ rules) prefix as_number route =
    if matches rule prefix route then decision rule as_number route else policy rules prefix as_number route
