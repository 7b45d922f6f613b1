-- How a router's tables change for one peering.
use Rattle.std.specs.Prelude.{ℕ, ◌≡◌, ◌≢◌, List, Option, length}
use Rattle.bgp_types.specs.declared.attrs.Attrs.{Attrs}
use Rattle.bgp_types.specs.Prefixes.{PrefixValue}
use Rattle.route_policy.specs.declared.entry.Entry.{Entry}
use Rattle.rib_stages.specs.Values.{rib_of}
use Rattle.session_value.specs.Cases.{PutsUpdate, update_for}
use Rattle.session_value.specs.Sessions.{SessionValue}
use Rattle.graft_model.specs.Points.{at}
use Rattle.graft_model.specs.Decisions.{to_tell}
use Rattle.graft_model.specs.Parts.{Place}
use Rattle.graft_model.specs.RouterRows.{IsToTell}
use Rattle.router_tables.specs.Entering.{EntersAll}
use Rattle.audit_tables.specs.Groups.{AreFirstAlike}
use Rattle.audit_tables.specs.Parts.{part_with, entries_at, due_at, pending_at, NothingIsKnown, TablesInvariant}
use Rattle.audit_tables.specs.declared.tables.Tables.{Tables}

-- they stay those of their router, and sound
pub record KeepsTables (old new : Tables) : Type 0 where
  pub setup : new.known.setup ≡ old.known.setup
  pub number : new.number ≡ old.number
  pub sound : TablesInvariant new

-- The entries of the peering and the dirty prefixes change, and nothing is known of what is to be told.
pub record ChangesEntries (p : ℕ) (old new : Tables) : Type 0 where
  pub effect : (places : ℕ → Place) → part_with places new
      ≡ record (part_with places old) { entries = at (part_with places old).entries p (entries_at new p); dirty = new.rib.dirty }
  pub unknown : NothingIsKnown new
  pub keeps : KeepsTables old new

-- What is due on the peering is this, and what is to be told there is no longer known.
pub record ChangesDue (p : ℕ) (old new : Tables) : Type 0 where
  pub effect : (places : ℕ → Place) → part_with places new ≡ record (part_with places old) { due_out = at (part_with places old).due_out p (due_at new p) }
  pub others : (q : ℕ) → q ≢ p → pending_at new q ≡ pending_at old q
  pub keeps : KeepsTables old new

-- The peering has these entries for the prefixes of a list, and keeps the others.
pub record EntersHere (p : ℕ) (values : PrefixValue → Option Entry) (prefixes : List PrefixValue) (old new : Tables) : Type 0 where
  pub entered : EntersAll (rib_of old.rib) p values prefixes (rib_of new.rib)
  pub changes : ChangesEntries p old new

-- An UPDATE told the first prefixes that are to be told alike on a session, which became another one.
pub record PutsFirstAlike (t : Tables) (places : ℕ → Place) (p : ℕ) (before : SessionValue) (prefixes : List PrefixValue) (after : SessionValue) : Type 0 where
  pub attrs : Option Attrs
  pub first : AreFirstAlike (IsToTell t.known.setup t.number.0 (part_with places t) p before)
      (to_tell t.known.setup t.number.0 (part_with places t) before) (length prefixes) attrs prefixes
  pub puts : PutsUpdate before (update_for attrs prefixes) after
