-- Routers, their policies and rules.
use Rattle.std.specs.Prelude.{ℕ, Bool, false, List, [], ◌∷◌, ◌++◌, Option, option_map, map, codes, if◌then◌else◌}
use Rattle.toml.specs.Data.{Members}
use Rattle.bgp_types.specs.Prefixes.{PrefixValue}
use Rattle.route_policy.specs.declared.rule.PrefixRange.{PrefixRange}
use Rattle.route_policy.specs.declared.rule.Rule.{Rule}
use Rattle.lab_keys.specs.declared.flaw.Flaw.{Flaw}
use Rattle.lab_keys.specs.declared.key.Kind.{Kind}
use Rattle.lab_keys.specs.declared.key.Kind.TheVariants.{Number, Name, Host, Prefix, Flag, Origin, Table, Misplaced}
use Rattle.lab_keys.specs.declared.table_at.TableAt.TheVariants as tables
use Rattle.lab_keys.specs.KeyRows.{KeyRow}
use Rattle.lab_keys.specs.Kinds.{first_of}
use Rattle.lab_keys.specs.Keys.{required, optional, optional_array, keys_flaw, row_flaw, stray_flaw, names_of}
use Rattle.lab_keys.specs.Values.{has_member, text_at, number_or, maybe_number, flag_or, address_or, maybe_prefix, prefixes_at, tables_at}
use Rattle.lab_tables.specs.declared.input.RouterInput.{RouterInput}
use Rattle.lab_tables.specs.declared.input.PolicyInput.{PolicyInput}
use Rattle.lab_tables.specs.Meanings.{origin_at}

-- ---- rules

-- lengths are allowed only beside a prefix
abbrev pub length_kind : Bool → Kind
length_kind ranged = if ranged then Number 0 32 else Misplaced

abbrev pub rule_keys : Bool → List KeyRow
rule_keys ranged =
    optional (codes "prefix") Prefix
    ∷ optional (codes "ge") (length_kind ranged)
    ∷ optional (codes "le") (length_kind ranged)
    ∷ optional (codes "has_as") (Number 1 4294967295)
    ∷ optional (codes "origin") Origin
    ∷ optional (codes "deny") Flag
    ∷ optional (codes "pref") (Number 0 4294967295)
    ∷ optional (codes "med") (Number 0 4294967295)
    ∷ optional (codes "prepend") (Number 0 8)
    ∷ []

abbrev pub rule_flaw : ℕ → ℕ → ℕ → Members → Option Flaw
rule_flaw i j k t =
    let keys = rule_keys (has_member (codes "prefix") t) in
    first_of (
    keys_flaw (tables.Rule i j k) keys t
    ∷ stray_flaw (tables.Rule i j k) (names_of keys) t
    ∷ [])

-- the range of lengths: from the prefix's own length, or the given least one; to the given greatest one, or else to the prefix's own length, or to 32
-- if a least one is given
abbrev pub range_of : Members → PrefixValue → PrefixRange
range_of t p = record {
  prefix = p;
  ge = number_or 8 p.len (codes "ge") t;
  le = number_or 8 (if has_member (codes "ge") t then 32 else p.len) (codes "le") t;
}

abbrev pub rule_of : Members → Rule
rule_of t = record {
  within = option_map (range_of t) (maybe_prefix (codes "prefix") t);
  has_as = maybe_number 32 (codes "has_as") t;
  origin = origin_at (codes "origin") t;
  deny = flag_or false (codes "deny") t;
  pref = maybe_number 32 (codes "pref") t;
  med = maybe_number 32 (codes "med") t;
  prepend = number_or 8 0 (codes "prepend") t;
}

-- ---- policies

abbrev pub policy_keys : List KeyRow
policy_keys = required (codes "name") Name ∷ []

abbrev pub rule_row : KeyRow
rule_row = optional_array (codes "rule") 0 64 Table

abbrev pub policy_flaw : ℕ → ℕ → Members → Option Flaw
policy_flaw i j t = first_of (
    keys_flaw (tables.Policy i j) policy_keys t
    ∷ row_flaw (tables.Policy i j) rule_row (rule_flaw i j) t
    ∷ stray_flaw (tables.Policy i j) (names_of (policy_keys ++ rule_row ∷ [])) t
    ∷ [])

abbrev pub policy_of : Members → PolicyInput
policy_of t = record { name = text_at (codes "name") t; rules = map rule_of (tables_at (codes "rule") t) }

-- ---- routers

abbrev pub router_keys : List KeyRow
router_keys =
    required (codes "name") Name
    ∷ required (codes "id") Host
    ∷ required (codes "sessions") (Number 0 32)
    ∷ optional (codes "by_bytes") Flag
    ∷ optional_array (codes "networks") 0 256 Prefix
    ∷ []

abbrev pub policy_row : KeyRow
policy_row = optional_array (codes "policy") 0 16 Table

abbrev pub router_flaw : ℕ → Members → Option Flaw
router_flaw i t = first_of (
    keys_flaw (tables.Router i) router_keys t
    ∷ row_flaw (tables.Router i) policy_row (policy_flaw i) t
    ∷ stray_flaw (tables.Router i) (names_of (router_keys ++ policy_row ∷ [])) t
    ∷ [])

abbrev pub router_of : Members → RouterInput
router_of t = record {
  name = text_at (codes "name") t;
  id = address_or 0 (codes "id") t;
  sessions = number_or 32 0 (codes "sessions") t;
  by_bytes = flag_or false (codes "by_bytes") t;
  networks = prefixes_at (codes "networks") t;
  policies = map policy_of (tables_at (codes "policy") t);
}
