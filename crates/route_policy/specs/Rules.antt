-- Which routes a rule of a policy matches.
use Rattle.std.specs.Prelude.{ℕ, ◌==◌, nat_le, Bool, true, ◌&&◌, List, Option, Some, None}
use Rattle.std.specs.List.{list_any}
use Rattle.bgp_types.specs.Prefixes.{PrefixValue, cleared}
use Rattle.bgp_types.specs.Paths.{ases_of}
use Rattle.bgp_types.specs.Spelling.{origin_number}
use Rattle.bgp_types.specs.declared.attrs.Origin.{Origin}
use Rattle.bgp_types.specs.declared.attrs.Route.{Route}
use Rattle.bgp_types.specs.declared.path.PathPart.{PathPart}
use Rattle.route_policy.specs.declared.rule.PrefixRange.{PrefixRange}
use Rattle.route_policy.specs.declared.rule.Rule.{Rule}

-- each address of the second prefix is one of the first
abbrev pub covers : PrefixValue → PrefixValue → Bool
covers p q = nat_le p.len q.len && (cleared p.len q.address == p.address)

-- covered, and with a length within the two bounds
abbrev pub is_in_range : PrefixRange → PrefixValue → Bool
is_in_range range prefix = covers range.prefix prefix && nat_le range.ge prefix.len && nat_le prefix.len range.le

-- the AS is in some part of the path
abbrev pub holds_as : List PathPart → ℕ → Bool
holds_as path as_number = list_any (λ part. list_any (λ other. other == as_number) (ases_of part)) path

-- ---- the parts of a rule: one that is absent matches every route

abbrev pub is_in_some_range : Option PrefixRange → PrefixValue → Bool
is_in_some_range None prefix = true
is_in_some_range (Some range) prefix = is_in_range range prefix

abbrev pub holds_some_as : Option ℕ → List PathPart → Bool
holds_some_as None path = true
holds_some_as (Some as_number) path = holds_as path as_number

abbrev pub has_some_origin : Option Origin → Origin → Bool
has_some_origin None origin = true
has_some_origin (Some wanted) origin = origin_number wanted == origin_number origin

abbrev pub matches : Rule → PrefixValue → Route → Bool
matches rule prefix route =
    is_in_some_range rule.within prefix && holds_some_as rule.has_as route.attrs.path && has_some_origin rule.origin route.attrs.origin
