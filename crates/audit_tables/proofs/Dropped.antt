-- The tables once prefixes are no longer due on a peering, and what is known to be to tell there.
use Rattle.std.proofs.Common.{◌≡◌, ℕ, ◌<◌, Bool, true, false, not, ◌&&◌, List, length, Option, Some, None, refl, sym, ap, ◌∙◌, subst, arith}
use Rattle.std.specs.Prelude.{slice_get, slice_set}
use Rattle.std.specs.List.{list_any}
use Rattle.bgp_types.specs.Prefixes.{PrefixValue, same_prefix}
use Rattle.session_value.specs.Sessions.{SessionValue}
use Rattle.session_value.specs.Sets.{Prefixes, has}
use Rattle.rib_stages.specs.Values.{table_at}
use Rattle.graft_model.specs.Decisions.{to_tell}
use Rattle.graft_model.specs.Parts.{Place}
use Rattle.graft_model.specs.RouterRows.{IsToTell}
use Rattle.graft_model.specs.Sets.{Drops}
use Rattle.graft_model.specs.Setups.{peerings_in}
use Rattle.audit_tables.specs.Changes.{ChangesDue, PutsFirstAlike}
use Rattle.audit_tables.specs.Dues.{DropsAt}
use Rattle.audit_tables.specs.Groups.{AreFirstAlike, LosesFirst}
use Rattle.audit_tables.specs.Parts.{KnowsWhatToTell, TablesInvariant, due_at, part_with, pending_at}
use Rattle.audit_tables.specs.declared.pending.Pending.{Pending}
use Rattle.audit_tables.specs.declared.tables.Tables.{Tables}
use Rattle.audit_tables.proofs.Changes.{changes_due, get_set_here}
use Rattle.audit_tables.proofs.Finding.{left_groups}
use Rattle.audit_tables.proofs.Keeping.{one_some}
use Rattle.audit_tables.proofs.Known.{telling_on}

-- what is due on a peering has changed, and what is known to be to tell there
module _ (t : Tables) (k : TablesInvariant t) (p : ℕ) (there : p < peerings_in t.known.setup) (test : PrefixValue → Bool) (dues : List Prefixes)
    (dropped : DropsAt p test t.due_out dues) (v : Tables) (o : Option Pending) (same : v ≡ record t { due_out = dues; pending = v.pending })
    (holds : v.pending.items ≡ slice_set t.pending.items p o) where
  dues_are : v.due_out ≡ dues
  dues_are = ap (λ (x : Tables). x.due_out) same

  pub due_dropped : Drops (due_at t p) test (due_at v p)
  due_dropped = subst (λ (ds : List Prefixes). Drops (due_at t p) test (table_at ds p)) (sym dues_are) dropped.drops

  pub changes_dropped : ChangesDue p t v
  changes_dropped = changes_due t v k p (subst (λ (x : Tables). x ≡ record t { due_out = x.due_out; pending = x.pending }) (sym same) refl)
      (ap (λ (ds : List Prefixes). length ds) dues_are ∙ dropped.size) (table_at dues p) (ap (λ (ds : List Prefixes). table_at ds) dues_are ∙ dropped.effect)
      o holds

  own_is : pending_at v p ≡ Some o
  own_is = ap (λ (xs : List (Option Pending)). slice_get xs p) holds ∙ get_set_here t.pending.items p o (omega (arith, there, k.pending))

  -- what stays to be told is known, if it was
  pub still_known : (was : Option Pending) → pending_at t p ≡ Some was → (places : ℕ → Place) (before after : SessionValue) (prefixes : List PrefixValue)
      → KnowsWhatToTell t places p before → (puts : PutsFirstAlike t places p before prefixes after)
      → ((x : PrefixValue) → test x ≡ list_any (same_prefix x) prefixes)
      → (count : ℕ) → count ≡ length prefixes
      → ((now : Pending) → o ≡ Some now → (old : Pending) × (was ≡ Some old) × LosesFirst count old.groups.contents now.groups.contents)
      → KnowsWhatToTell v places p after
  still_known was is_was places before after prefixes knows puts tests count all loses now is =
      let lost = loses now (one_some o (Some now) (sym own_is ∙ is)) in
      left_groups t v places p before after prefixes puts
      (record { members = λ x. due_dropped.members x ∙ ap (λ (b : Bool). has (due_at t p) x && not b) (tests x) }) changes_dropped now.groups.contents
      (lost.2 (telling_on t places p before) puts.attrs prefixes
      (knows lost.0 (is_was ∙ ap Some lost.1)) (subst (λ (n : ℕ). AreFirstAlike (IsToTell t.known.setup t.number.0 (part_with places t) p before)
      (to_tell t.known.setup t.number.0 (part_with places t) before) n puts.attrs prefixes) (sym all) puts.first))
