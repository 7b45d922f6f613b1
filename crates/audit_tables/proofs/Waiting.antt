-- Whether a prefix waits on a peering.
use Rattle.std.proofs.Common.{◌≡◌, ℕ, zero, suc, ◌<◌, Bool, true, false, ◌||◌, List, [], ◌∷◌, ◌++◌, length, get_or, refl, sym, ap, ◌∙◌, arith}
use Rattle.std.specs.FinMap as map
use Rattle.std.specs.List.{list_any}
use Rattle.std.proofs.lemmas.Bool.{false≢true}
use Rattle.bgp_types.specs.Prefixes.{PrefixValue, same_prefix}
use Rattle.session_value.specs.Sets.{Prefixes, has}
use Rattle.update_plan.proofs.Keys.{keys_any}
use Rattle.update_plan.proofs.Listed.{is_same, same_itself}
use Rattle.graft_model.specs.Parts.{Place}
use Rattle.graft_model.specs.RouterRows.{WaitsOnPeering}
use Rattle.audit_tables.specs.Parts.{due_at, part_with}
use Rattle.audit_tables.specs.declared.tables.Tables.{Tables}
use Rattle.audit_tables.proofs.Dropping.{any_one_more}

-- what stands in a list at a place is in it
listed_at : (xs : List PrefixValue) (i : ℕ) (y : PrefixValue) → i < length xs → y ≡ get_or xs i y → list_any (same_prefix y) xs ≡ true
listed_at [] i y below is = absurd (omega (arith, below))
listed_at (x ∷ xs) zero y below is = ap (λ (b : Bool). b || list_any (same_prefix y) xs) (ap (same_prefix y) (sym is) ∙ same_itself y)
listed_at (x ∷ xs) (suc i) y below is = or_last (same_prefix y x) (list_any (same_prefix y) xs) (listed_at xs i y (omega (arith, below)) is)
  where
    or_last : (a b : Bool) → b ≡ true → (a || b) ≡ true
    or_last true b e = refl
    or_last false b e = e

-- each of the listed prefixes is dirty
abbrev pub AreDirty : Prefixes → List PrefixValue → Type 0
AreDirty dirty xs = (x : PrefixValue) → list_any (same_prefix x) xs ≡ true → has dirty x ≡ true

pub dirty_more : (dirty : Prefixes) (xs : List PrefixValue) (y : PrefixValue) → AreDirty dirty xs → has dirty y ≡ true → AreDirty dirty (xs ++ y ∷ [])
dirty_more dirty xs y before own x there = by_test (list_any (same_prefix x) xs) (same_prefix x y) refl refl (sym (any_one_more xs y x) ∙ there)
  where
    by_test : (a b : Bool) → list_any (same_prefix x) xs ≡ a → same_prefix x y ≡ b → (a || b) ≡ true → has dirty x ≡ true
    by_test true b e f g = before x e
    by_test false true e f g = ap (has dirty) (is_same x y f) ∙ own
    by_test false false e f g = absurd (false≢true g)

module _ (t : Tables) (p : ℕ) (places : ℕ → Place) (prefixes : List PrefixValue) (all : prefixes ≡ map.keys (due_at t p)) where
  is_due : (x : PrefixValue) → list_any (same_prefix x) prefixes ≡ has (due_at t p) x
  is_due x = ap (λ (ks : List PrefixValue). list_any (same_prefix x) ks) all ∙ keys_any (due_at t p) x

  pub one_waits : (i : ℕ) (y : PrefixValue) → i < length prefixes → y ≡ get_or prefixes i y → has t.rib.dirty y ≡ false
      → (x : PrefixValue) × WaitsOnPeering (part_with places t) p x
  one_waits i y below is clean = (y, (sym (is_due y) ∙ listed_at prefixes i y below is, clean))

  pub none_waits : AreDirty t.rib.dirty prefixes → (x : PrefixValue) → ¬ WaitsOnPeering (part_with places t) p x
  none_waits dirty x waits = false≢true (sym waits.1 ∙ dirty x (is_due x ∙ waits.0))
