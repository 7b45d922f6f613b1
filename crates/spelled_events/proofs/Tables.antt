-- Tables and sets that have only prefixes as keys.
use Rattle.std.proofs.Common.{◌≡◌, ◌⊎◌, inl, inr, Bool, true, false, cond, List, [], ◌∷◌, Option, Some, None, refl, sym, ap, ◌∙◌, subst}
use Rattle.std.specs.Prelude.{◌≢◌, fold, is_some}
use Rattle.std.specs.FinMap as map
use Rattle.std.specs.List.{AllByRecursion}
use Rattle.bgp_types.specs.declared.attrs.Attrs.{Attrs}
use Rattle.bgp_types.specs.declared.message.SessionState.{SessionState}
use Rattle.bgp_types.specs.declared.message.SessionState.TheVariants.{OpenSent, OpenConfirm, Established, Closed}
use Rattle.bgp_types.specs.Prefixes.{PrefixValue, IsPrefix}
use Rattle.bgp_types.specs.Tables.{prefix_cmp}
use Rattle.bgp_types.proofs.TableLaws.{prefix_total}
use Rattle.bgp_story.specs.Readings.{Routes, announce, unless_closed}
use Rattle.session_value.specs.Sets.{Prefixes, Marks}
use Rattle.graft_laws.proofs.PrefixTables.{same, same_is}

abbrev pub HasPrefixes : {A : Type 0} → map.FinMap prefix_cmp A → Type 0
HasPrefixes table = (x : PrefixValue) → is_some (map.get table x) ≡ true → IsPrefix x

pub none_has : (A : Type 0) → HasPrefixes {A = A} map.empty
none_has A x there = let e : ◌≡◌ {A = Bool} false true = ap is_some (sym (map.get-empty prefix_cmp x)) ∙ there in absurd cc

pub put_has : {A : Type 0} (table : map.FinMap prefix_cmp A) (y : PrefixValue) (value : A) → IsPrefix y → HasPrefixes table
    → HasPrefixes (map.insert table y value)
put_has table y value own all x there = by_test (same x y) refl (ap is_some (sym (map.get-insert prefix_total table y value x)) ∙ there) where
  by_test : (t : Bool) → same x y ≡ t → is_some (cond t (Some value) (map.get table x)) ≡ true → IsPrefix x
  by_test true is f = subst IsPrefix (sym (same_is x y is)) own
  by_test false is f = all x f

pub removed_has : {A : Type 0} (table : map.FinMap prefix_cmp A) (y : PrefixValue) → HasPrefixes table → HasPrefixes (map.remove table y)
removed_has table y all x there = by_test (same x y) (ap is_some (sym (map.get-remove prefix_total table y x)) ∙ there) where
  by_test : (t : Bool) → is_some (cond t None (map.get table x)) ≡ true → IsPrefix x
  by_test true f = absurd cc
  by_test false f = all x f

-- ---- sets

pub puts_has : (ys : List PrefixValue) (set : Prefixes) → AllByRecursion IsPrefix ys → HasPrefixes set
    → HasPrefixes (fold (λ prefixes y. map.insert prefixes y tt) set ys)
puts_has [] set each all = all
puts_has (y ∷ ys) set each all = puts_has ys (map.insert set y tt) each.1 (put_has set y tt each.0 all)

one_there : {A : Type 0} (a b : Option A) → a ≢ b → (is_some a ≡ true) ⊎ (is_some b ≡ true)
one_there None None differ = absurd (differ refl)
one_there None (Some b) differ = inr refl
one_there (Some a) b differ = inl refl

-- the keys at which two tables differ are added
pub marked_has : {A : Type 0} (before : Prefixes) (old new : map.FinMap prefix_cmp A) (after : Prefixes) → HasPrefixes before → HasPrefixes old
    → HasPrefixes new → Marks before old new after → HasPrefixes after
marked_has before old new after was had has marks x there = elim (marks.marked x there) [
  | inl is ↦ was x is
  | inr differ ↦ elim (one_there (map.get new x) (map.get old x) differ) [ inl is ↦ has x is | inr is ↦ had x is ]
]

-- ---- routes

pub removes_has : (ys : List PrefixValue) (routes : Routes) → HasPrefixes routes → HasPrefixes (fold map.remove routes ys)
removes_has [] routes all = all
removes_has (y ∷ ys) routes all = removes_has ys (map.remove routes y) (removed_has routes y all)

pub announces_has : (attrs : Option Attrs) (ys : List PrefixValue) (routes : Routes) → AllByRecursion IsPrefix ys → HasPrefixes routes
    → HasPrefixes (fold (announce attrs) routes ys)
announces_has attrs [] routes each all = all
announces_has None (y ∷ ys) routes each all = announces_has None ys routes each.1 all
announces_has (Some a) (y ∷ ys) routes each all = announces_has (Some a) ys (map.insert routes y a) each.1 (put_has routes y a each.0 all)

pub unclosed_has : (now : SessionState) (routes : Routes) → HasPrefixes routes → HasPrefixes (unless_closed now routes)
unclosed_has OpenSent routes all = all
unclosed_has OpenConfirm routes all = all
unclosed_has Established routes all = all
unclosed_has Closed routes all = none_has Attrs
