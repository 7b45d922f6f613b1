-- What a session brings in at a router, by the policies that the router has, and how its entries are set.
use Rattle.std.specs.Prelude.{ℕ, ◌≡◌, true, false, List, Option, Some, None, option_map, is_none, if◌then◌else◌}
use Rattle.std.specs.FinMap as map
use Rattle.std.specs.List.{list_any}
use Rattle.bgp_types.specs.Prefixes.{PrefixValue, same_prefix}
use Rattle.route_policy.specs.Candidates.{SessionRoute, imported}
use Rattle.route_policy.specs.declared.entry.Entry.{Entry}
use Rattle.route_policy.specs.declared.rule.Rule.{Rule}
use Rattle.session_value.specs.declared.config.SessionConfig.{SessionConfig}
use Rattle.session_value.specs.Points.{at}
use Rattle.session_value.specs.Sessions.{SessionValue}
use Rattle.session_value.specs.Sets.{Marks}
use Rattle.rib_stages.specs.Steps.{given}
use Rattle.rib_stages.specs.Values.{RibValue}
use Rattle.rib_stages.specs.declared.config.InEntry.{InEntry}
use Rattle.graft_model.specs.Decisions.{remote_identifier}
use Rattle.graft_model.specs.Setups.{first_name}
use Rattle.actor_configs.specs.Configs.{rules_at}
use Rattle.actor_configs.specs.declared.router.NamedPolicy.{NamedPolicy}

-- the rules that policies have for a session's name; none where the session names no policy
abbrev pub rules_by : List NamedPolicy → Option (List ℕ) → Option (List Rule)
rules_by policies None = None
rules_by policies (Some name) = rules_at policies name

-- what a session gives for a prefix, with the import policy of its name here
abbrev pub route_here : List NamedPolicy → SessionValue → PrefixValue → SessionRoute
route_here policies session prefix = record {
  peering = session.config.peering;
  remote_as = session.config.remote_as;
  identifier = remote_identifier session;
  address = session.config.remote_address;
  import_rules = rules_by policies session.config.import;
  heard = map.get session.adj_rib_in prefix;
}

-- the entry that a router of this AS makes of it
abbrev pub entry_here : ℕ → List NamedPolicy → SessionValue → PrefixValue → Option Entry
entry_here home_as policies session prefix = option_map
    (λ route. record { route = route; identifier = remote_identifier session; address = session.config.remote_address })
    (imported home_as prefix (route_here policies session prefix) (map.get session.adj_rib_in prefix))

-- This is the entry that the session brings in for this prefix.
pub record IsBrought (home_as : ℕ) (policies : List NamedPolicy) (session : SessionValue) (x : PrefixValue) (entry : InEntry) : Type 0 where
  pub prefix : entry.prefix ≡ x
  pub gives : given entry ≡ entry_here home_as policies session x

-- A peering has these entries for the prefixes of a list, and keeps its entries for the others. The prefixes whose entries changed are dirty.
pub record EntersAll (before : RibValue) (p : ℕ) (values : PrefixValue → Option Entry) (prefixes : List PrefixValue) (after : RibValue) : Type 0 where
  pub each : (x : PrefixValue) → list_any (same_prefix x) prefixes ≡ true → map.get (after.entries p) x ≡ values x
  pub others : (x : PrefixValue) → list_any (same_prefix x) prefixes ≡ false → map.get (after.entries p) x ≡ map.get (before.entries p) x
  pub dirty : Marks before.dirty (before.entries p) (after.entries p) after.dirty
  pub effect : after ≡ record before { entries = at before.entries p (after.entries p); dirty = after.dirty }

-- ---- policies that the router doesn't have

-- the policy name of a session, if there is no policy of that name
abbrev pub unknown_by : List NamedPolicy → Option (List ℕ) → Option (List ℕ)
unknown_by policies None = None
unknown_by policies (Some name) = if is_none (rules_at policies name) then Some name else None

-- the import policy comes before the export policy
abbrev pub missing_by : List NamedPolicy → SessionConfig → Option (List ℕ)
missing_by policies config = first_name (unknown_by policies config.import) (unknown_by policies config.export)
