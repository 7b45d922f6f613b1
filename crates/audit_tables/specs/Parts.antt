-- A router's tables as the model has them, and the invariant of their fields.
use Rattle.std.specs.Prelude.{ℕ, ◌≡◌, ◌<◌, ◌≤◌, length, Option, Some, false, slice_get}
use Rattle.bgp_types.specs.Prefixes.{PrefixValue}
use Rattle.rib_stages.specs.Values.{rib_of, table_at}
use Rattle.rib_stages.specs.Choosing.{NoneBehind}
use Rattle.session_value.specs.Sessions.{SessionValue}
use Rattle.session_value.specs.Sets.{Entries, Prefixes, has}
use Rattle.graft_model.specs.Setups.{routers_in, peerings_in}
use Rattle.graft_model.specs.Parts.{Place, RouterPart}
use Rattle.graft_model.specs.RouterRows.{IsToTell}
use Rattle.graft_model.specs.Decisions.{to_tell}
use Rattle.actor_configs.specs.Configs.{ArePoliciesOf, IsRibOf}
use Rattle.audit_tables.specs.Groups.{AreGroups}
use Rattle.audit_tables.specs.declared.pending.Pending.{Pending}
use Rattle.audit_tables.specs.declared.tables.Tables.{Tables}

-- the router with these places
abbrev pub part_with : (ℕ → Place) → Tables → RouterPart
part_with places t = record {
  places = places;
  entries = (rib_of t.rib).entries;
  tellings = (rib_of t.rib).tellings;
  best = t.rib.best;
  dirty = t.rib.dirty;
  due_in = table_at t.due_in;
  due_out = table_at t.due_out;
}

abbrev pub entries_at : Tables → ℕ → Entries
entries_at t p = (rib_of t.rib).entries p

abbrev pub due_at : Tables → ℕ → Prefixes
due_at t p = table_at t.due_out p

pub record TablesInvariant (t : Tables) : Type 0 where
  -- the configuration is its laboratory's
  pub there : t.number.0 < routers_in t.known.setup
  pub few_routers : routers_in t.known.setup ≤ 256
  pub few_peerings : peerings_in t.known.setup ≤ 256
  pub home_as : t.home_as ≡ t.known.setup.home_as
  pub policies : ArePoliciesOf t.known.setup t.number.0 t.policies
  pub rib : IsRibOf t.known.setup t.number.0 t.rib.config
  -- there is a set for each router and for each peering; nothing is kept of others
  pub due_in : length t.due_in ≡ routers_in t.known.setup
  pub due_out : length t.due_out ≡ peerings_in t.known.setup
  pub pending : length t.pending.items ≡ peerings_in t.known.setup
  pub none_behind : (x : PrefixValue) → NoneBehind (peerings_in t.known.setup) (routers_in t.known.setup) (rib_of t.rib) x

-- ---- what is to be told

-- what was found of a peering, if it is known
abbrev pub pending_at : Tables → ℕ → Option (Option Pending)
pending_at t p = slice_get t.pending.items p

-- nothing is known of a peering
abbrev pub IsForgotten : ℕ → Tables → Type 0
IsForgotten p t = (pending : Pending) → ¬ (pending_at t p ≡ Some (Some pending))

-- nothing is known of any peering
pub record NothingIsKnown (t : Tables) : Type 0 where
  pub none : (p : ℕ) → IsForgotten p t

-- What is known to be to tell on a peering, whose live session this is, are all the prefixes that are.
abbrev pub KnowsWhatToTell : Tables → (ℕ → Place) → ℕ → SessionValue → Type 0
KnowsWhatToTell t places p session = (pending : Pending) → pending_at t p ≡ Some (Some pending)
    → AreGroups (IsToTell t.known.setup t.number.0 (part_with places t) p session) (to_tell t.known.setup t.number.0 (part_with places t) session)
    pending.groups.contents

-- no prefix is dirty, and none is due to a router or on a peering
pub record NothingIsLeft (t : Tables) : Type 0 where
  pub clean : (x : PrefixValue) → has t.rib.dirty x ≡ false
  pub told_in : (q : ℕ) (x : PrefixValue) → has (table_at t.due_in q) x ≡ false
  pub told_out : (p : ℕ) (x : PrefixValue) → has (due_at t p) x ≡ false
