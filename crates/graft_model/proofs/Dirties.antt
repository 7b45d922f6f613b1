-- What is dirty where a table changed.
use Rattle.std.proofs.Common.{◌≡◌, ℕ, Bool, true, false, cond, List, Option, Some, None, refl, sym, ap, ◌∙◌, inl, inr}
use Rattle.std.specs.Prelude.{◌≢◌, is_some}
use Rattle.std.specs.Cmp.{eq_by_cmp_equiv}
use Rattle.std.specs.FinMap as map
use Rattle.bgp_types.specs.declared.attrs.Route.{Route}
use Rattle.bgp_types.specs.Prefixes.{PrefixValue}
use Rattle.bgp_types.specs.Tables.{prefix_cmp}
use Rattle.bgp_types.proofs.TableLaws.{prefix_total}
use Rattle.session_value.specs.Sets.{Prefixes, has}
use Rattle.graft_model.specs.Parts.{RouterPart, Told, Done}
use Rattle.graft_model.specs.RouterRows.{MeshIn, RouterSent}
use Rattle.graft_model.specs.TableRows.{Hears}
use Rattle.graft_model.specs.GraftRows.{Clears}
use Rattle.graft_model.proofs.Items.{told_is, done_is}

has_inserted : (prefixes : Prefixes) (x : PrefixValue) → has (map.insert prefixes x tt) x ≡ true
has_inserted prefixes x = ap is_some
    (map.get-insert prefix_total prefixes x tt x ∙ ap (λ (b : Bool). cond b (Some tt) (map.get prefixes x)) ((eq_by_cmp_equiv prefix_total).refl x))

pub hear_dirties : (q : ℕ) (prefix : PrefixValue) (route : Option Route) (before after : RouterPart) (sent : List RouterSent)
    → Hears q before (Some (MeshIn q (Told prefix route))) sent after → route ≢ map.get (before.tellings q) prefix → has after.dirty prefix ≡ true
hear_dirties q prefix route before after sent row differs =
    let e = told_is q prefix row.prefix route row.route row.takes in
    elim row.dirty [
      | inl same ↦ absurd (differs (e.1 ∙ (same.0 ∙ ap (λ (x : PrefixValue). map.get (before.tellings q) x) (sym e.0))))
      | inr other ↦ ap (λ (d : Prefixes). has d prefix) other.1
          ∙ (ap (λ (x : PrefixValue). has (map.insert before.dirty x tt) prefix) (sym e.0) ∙ has_inserted before.dirty prefix)
    ]

pub clear_dirties : (q k p : ℕ) (x : PrefixValue) (before after : RouterPart) (sent : List RouterSent)
    → Clears q before (Some (MeshIn q (Done k p))) sent after → map.get (before.entries p) x ≢ None → has after.dirty x ≡ true
clear_dirties q k p x before after sent row there = by_test (has after.dirty x) refl where
  by_test : (t : Bool) → has after.dirty x ≡ t → t ≡ true
  by_test true is = refl
  by_test false is = absurd (there (ap (λ (n : ℕ). map.get (before.entries n) x) (done_is q k row.graft p row.peering row.takes).1
      ∙ (sym (row.dirty.others x is).1 ∙ map.get-empty prefix_cmp x)))
