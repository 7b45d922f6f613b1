-- How the routes of a router change.
use Rattle.std.specs.Prelude.{ℕ, ◌≡◌, ◌≢◌, ◌⊎◌, Option, None, option_map}
use Rattle.std.specs.FinMap as map
use Rattle.bgp_types.specs.Prefixes.{PrefixValue}
use Rattle.bgp_types.specs.Tables.{prefix_cmp}
use Rattle.bgp_types.specs.declared.attrs.Route.{Route}
use Rattle.bgp_types.specs.declared.rank.From.{From}
use Rattle.bgp_types.specs.declared.rank.From.TheVariants.{Own, Peering, Router}
use Rattle.loc_rib.specs.Values.{with_value}
use Rattle.route_policy.specs.declared.entry.Entry.{Entry}
use Rattle.session_value.specs.Points.{at}
use Rattle.session_value.specs.Sets.{Entries, Prefixes, Tellings, Marks, MarksOne}
use Rattle.rib_stages.specs.declared.config.InEntry.{InEntry}
use Rattle.rib_stages.specs.Values.{RibValue, Given, table_from}

-- the entry that a peering gives: none if there is no route
abbrev pub given : InEntry → Option Entry
given entry = option_map (λ route. record { route = route; identifier = entry.identifier; address = entry.address }) entry.route

-- what is given: nothing from the router itself, and of what another router tells only the route counts
abbrev pub given_from : (from : From) → InEntry → Option (Given from)
given_from Own entry = None
given_from (Peering p) entry = given entry
given_from (Router q) entry = entry.route

abbrev pub taken : (from : From) → Entry → Given from
taken Own entry = tt
taken (Peering p) entry = entry
taken (Router q) entry = entry.route

-- ---- another table of one source, where the own networks are configured

abbrev pub entries_with : RibValue → (from : From) → map.FinMap prefix_cmp (Given from) → ℕ → Entries
entries_with rib Own table = rib.entries
entries_with rib (Peering p) table = at rib.entries p.0 table
entries_with rib (Router q) table = rib.entries

abbrev pub tellings_with : RibValue → (from : From) → map.FinMap prefix_cmp (Given from) → ℕ → Tellings
tellings_with rib Own table = rib.tellings
tellings_with rib (Peering p) table = rib.tellings
tellings_with rib (Router q) table = at rib.tellings q.0 table

-- the routes with this table of a source, and these dirty prefixes
abbrev pub with_table : RibValue → (from : From) → map.FinMap prefix_cmp (Given from) → Prefixes → RibValue
with_table rib from table dirty = record rib { entries = entries_with rib from table; tellings = tellings_with rib from table; dirty = dirty }

-- A source gives this for a prefix, or nothing, and the prefix is dirty.
pub record Enters (before : RibValue) (from : From) (prefix : PrefixValue) (value : Option (Given from)) (after : RibValue) : Type 0 where
  pub effect : after ≡ with_table before from (with_value (table_from before from) prefix value) (map.insert before.dirty prefix tt)

-- A source gives this for a prefix, or nothing. The prefix becomes dirty if that is something else than before.
pub record Sets (before : RibValue) (from : From) (prefix : PrefixValue) (value : Option (Given from)) (after : RibValue) : Type 0 where
  pub dirty : MarksOne before.dirty prefix (map.get (table_from before from) prefix) value after.dirty
  pub effect : after ≡ with_table before from (with_value (table_from before from) prefix value) after.dirty

abbrev pub SetsEntry : RibValue → ℕ → PrefixValue → Option Entry → RibValue → Type 0
SetsEntry before p = Sets before (Peering (record { 0 = p }))

abbrev pub SetsTelling : RibValue → ℕ → PrefixValue → Option Route → RibValue → Type 0
SetsTelling before q = Sets before (Router (record { 0 = q }))

abbrev pub SetsIn : RibValue → From → InEntry → RibValue → Type 0
SetsIn before Own entry after = after ≡ before
SetsIn before (Peering p) entry after = SetsEntry before p.0 entry.prefix (given entry) after
SetsIn before (Router q) entry after = SetsTelling before q.0 entry.prefix entry.route after

-- A peering or another router gives something else than this.
pub record IsOther (rib : RibValue) (from : From) (entry : InEntry) : Type 0 where
  pub not_own : from ≢ Own
  pub differs : given_from from entry ≢ map.get (table_from rib from) entry.prefix

-- Nothing changes, except that the prefix may become dirty.
pub record MayMark (before : RibValue) (prefix : PrefixValue) (after : RibValue) : Type 0 where
  pub dirty : (after.dirty ≡ before.dirty) ⊎ (after.dirty ≡ map.insert before.dirty prefix tt)
  pub effect : after ≡ record before { dirty = after.dirty }

-- Some routes from a source are removed, and their prefixes are dirty.
pub record Drops (before : RibValue) (from : From) (after : RibValue) : Type 0 where
  pub left : (prefix : PrefixValue)
      → (map.get (table_from after from) prefix ≡ None) ⊎ (map.get (table_from after from) prefix ≡ map.get (table_from before from) prefix)
  pub dirty : Marks before.dirty (table_from before from) (table_from after from) after.dirty
  pub effect : after ≡ with_table before from (table_from after from) after.dirty

abbrev pub DropsEntries : RibValue → ℕ → RibValue → Type 0
DropsEntries before p = Drops before (Peering (record { 0 = p }))

abbrev pub DropsSome : RibValue → From → RibValue → Type 0
DropsSome before Own after = after ≡ before
DropsSome before (Peering p) after = Drops before (Peering p) after
DropsSome before (Router q) after = Drops before (Router q) after

-- All routes from this source are removed, and their prefixes are dirty.
abbrev pub DropsAll : RibValue → From → RibValue → Type 0
DropsAll before Own after = after ≡ before
DropsAll before (Peering p) after = Drops before (Peering p) after × (after.entries p.0 ≡ map.empty)
DropsAll before (Router q) after = Drops before (Router q) after × (after.tellings q.0 ≡ map.empty)
