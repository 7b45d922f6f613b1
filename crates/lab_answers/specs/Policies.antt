-- The policies of a name at routers.
use Rattle.std.specs.Prelude.{ℕ, List, Option, None, Some, find, option_map}
use Rattle.std.specs.List.{filter_map}
use Rattle.std.specs.Str.{bytes_eq}
use Rattle.route_policy.specs.declared.rule.Rule.{Rule}
use Rattle.lab_tables.specs.declared.input.LabInput.{LabInput}
use Rattle.lab_tables.specs.declared.input.PeeringInput.{PeeringInput}
use Rattle.lab_tables.specs.declared.input.RouterInput.{RouterInput}
use Rattle.lab_answers.specs.declared.imports.Imports.{Imports}

-- the rules of a router's policy of this name
abbrev pub policy_rules : List ℕ → RouterInput → Option (List Rule)
policy_rules name router = option_map (λ policy. policy.rules) (find (λ policy. bytes_eq name policy.name) router.policies)

-- the rules that a router has for a session's name
abbrev pub rules_of : Option (List ℕ) → RouterInput → Option (List Rule)
rules_of None router = None
rules_of (Some name) router = policy_rules name router

-- how the routers let in what the remote of a peering announces
abbrev pub imports_of : LabInput → PeeringInput → Imports
imports_of input p = record {
  home_as = input.home_as;
  remote_as = p.remote_as;
  policies = filter_map (rules_of p.«import») input.routers;
}
