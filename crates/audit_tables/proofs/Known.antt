-- What is known to be to tell on a peering.
use Rattle.std.proofs.Common.{◌≡◌, ◌≢◌, ℕ, ◌<◌, Option, Some, None, length, get_or, is_some, true, refl, sym, ◌∙◌, subst, arith}
use Rattle.std.specs.Vec.{with_item}
use Rattle.std.proofs.lemmas.Bool.{false≢true}
use Rattle.std.proofs.lemmas.List.{length-set}
use Rattle.std.proofs.lemmas.Option.{slice_get_read, slice_get_within}
use Rattle.session_value.specs.Sessions.{SessionValue}
use Rattle.graft_model.specs.Decisions.{to_tell}
use Rattle.graft_model.specs.Parts.{Place}
use Rattle.graft_model.specs.RouterRows.{IsToTell}
use Rattle.graft_model.specs.Setups.{peerings_in}
use Rattle.audit_tables.specs.Changes.{KeepsTables}
use Rattle.audit_tables.specs.Groups.{AreGroups, Telling}
use Rattle.audit_tables.specs.Parts.{KnowsWhatToTell, TablesInvariant, due_at, part_with, pending_at}
use Rattle.audit_tables.specs.declared.pending.Pending.{Pending}
use Rattle.audit_tables.specs.declared.tables.Tables.{Tables}
use Rattle.audit_tables.proofs.Changes.{get_set_here, get_set_other}
use Rattle.audit_tables.proofs.Keeping.{keeps_pending, one_some}

-- what the router tells on a session
abbrev pub telling_on : Tables → (ℕ → Place) → ℕ → SessionValue → Telling
telling_on t places p s = record {
  due = due_at t p;
  dirty = t.rib.dirty;
  told = s.adj_rib_out;
  to_tell = to_tell t.known.setup t.number.0 (part_with places t) s;
}

-- what is read of a peering
pub read_at : (t : Tables) (p : ℕ) → p < length t.pending.items → (o : Option Pending) → o ≡ get_or t.pending.items p o → pending_at t p ≡ Some o
read_at t p there o is = slice_get_read t.pending.items (length t.pending.items) p o refl there is

-- what is read where something is known
pub read_known : (t : Tables) (p : ℕ) (known : Pending) → pending_at t p ≡ Some (Some known) → (o : Option Pending) → o ≡ get_or t.pending.items p o
    → o ≡ Some known
read_known t p known at o is =
    one_some o (Some known) (sym (read_at t p (slice_get_within t.pending.items p (Some known) at) o is) ∙ at)

-- what is read where it is something
pub read_some : (t : Tables) (p : ℕ) → p < length t.pending.items → (o : Option Pending) → o ≡ get_or t.pending.items p o → is_some o ≡ true
    → (known : Pending) × (pending_at t p ≡ Some (Some known))
read_some t p there (Some known) is some = (known, read_at t p there (Some known) is)
read_some t p there None is some = absurd (false≢true some)

-- the tables where this is found of a peering
abbrev pub finding : Tables → ℕ → Pending → Tables
finding t p found = record t { pending = with_item t.pending p (Some found) }

module _ (t : Tables) (k : TablesInvariant t) (p : ℕ) (there : p < peerings_in t.known.setup) (found : Pending) where
  pub now_known : pending_at (finding t p found) p ≡ Some (Some found)
  now_known = get_set_here t.pending.items p (Some found) (omega (arith, there, k.pending))

  pub others_known : (q : ℕ) → q ≢ p → pending_at (finding t p found) q ≡ pending_at t q
  others_known q not = get_set_other t.pending.items p q (Some found) not

  pub keeps_known : KeepsTables t (finding t p found)
  keeps_known = keeps_pending t (finding t p found) refl (length-set t.pending.items p (Some found)) k

  pub knows_found : (places : ℕ → Place) (s : SessionValue)
      → AreGroups (IsToTell t.known.setup t.number.0 (part_with places t) p s) (to_tell t.known.setup t.number.0 (part_with places t) s) found.groups.contents
      → KnowsWhatToTell (finding t p found) places p s
  knows_found places s are pending at =
      subst (λ (g : Pending). AreGroups (IsToTell t.known.setup t.number.0 (part_with places t) p s) (to_tell t.known.setup t.number.0 (part_with places t) s)
      g.groups.contents) (one_some found pending (one_some (Some found) (Some pending) (sym now_known ∙ at))) are
