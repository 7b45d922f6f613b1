-- Sets and tables of prefixes after one change.
use Rattle.std.proofs.Common.{◌≡◌, Bool, true, false, cond, Option, Some, None, refl, ap, ◌∙◌, subst, ◌⊎◌, inl, inr}
use Rattle.std.specs.Prelude.{◌||◌, is_some}
use Rattle.std.specs.Ordering.{eq_by_cmp}
use Rattle.std.specs.Cmp.{eq_by_cmp_equiv}
use Rattle.std.specs.FinMap as map
use Rattle.bgp_types.specs.declared.attrs.Route.{Route}
use Rattle.bgp_types.specs.Prefixes.{PrefixValue, same_prefix}
use Rattle.bgp_types.specs.Tables.{prefix_cmp}
use Rattle.bgp_types.proofs.OnceLaws.{is_same}
use Rattle.bgp_types.proofs.TableLaws.{prefix_total, tied}
use Rattle.loc_rib.specs.Values.{with_best}
use Rattle.route_policy.specs.declared.best.Best.{Best}
use Rattle.session_value.specs.Sets.{BestRoutes, Prefixes, has}
use Rattle.graft_model.specs.Parts.{Tellings}
use Rattle.graft_model.specs.TableRows.{with_telling}

abbrev pub same : PrefixValue → PrefixValue → Bool
same x y = eq_by_cmp prefix_cmp x y

pub same_is : (x y : PrefixValue) → same x y ≡ true → x ≡ y
same_is x y e = tied x y e

pub same_self : (x : PrefixValue) → same x x ≡ true
same_self x = (eq_by_cmp_equiv prefix_total).refl x

-- two prefixes are one or not
pub one_or_not : (x y : PrefixValue) → (x ≡ y) ⊎ ((same x y ≡ false) × (same_prefix x y ≡ false))
one_or_not x y = by_test (same x y) refl where
  apart : (t : Bool) → same x y ≡ false → same_prefix x y ≡ t → same_prefix x y ≡ false
  apart false e f = f
  apart true e f = let g : same x y ≡ true = subst (λ (z : PrefixValue). same x z ≡ true) (is_same x y f) (same_self x) in absurd cc

  by_test : (t : Bool) → same x y ≡ t → (x ≡ y) ⊎ ((same x y ≡ false) × (same_prefix x y ≡ false))
  by_test true e = inl (same_is x y e)
  by_test false e = inr (e, apart (same_prefix x y) e refl)

some_if : {A : Type 0} (t : Bool) (x : A) (o : Option A) → is_some (cond t (Some x) o) ≡ (t || is_some o)
some_if true x o = refl
some_if false x o = refl

some_unless : {A : Type 0} (t : Bool) (o : Option A) → is_some (cond t None o) ≡ cond t false (is_some o)
some_unless true o = refl
some_unless false o = refl

pub has_put : (xs : Prefixes) (y x : PrefixValue) → has (map.insert xs y tt) x ≡ (same x y || has xs x)
has_put xs y x = ap is_some (map.get-insert prefix_total xs y tt x) ∙ some_if (same x y) tt (map.get xs x)

pub has_removed : (xs : Prefixes) (y x : PrefixValue) → has (map.remove xs y) x ≡ cond (same x y) false (has xs x)
has_removed xs y x = ap is_some (map.get-remove prefix_total xs y x) ∙ some_unless (same x y) (map.get xs x)

pub has_none : (x : PrefixValue) → has map.empty x ≡ false
has_none x = ap is_some (map.get-empty {X = Unit {0}} prefix_cmp x)

pub get_with : (best : BestRoutes) (y : PrefixValue) (c : Option Best) (x : PrefixValue) → map.get (with_best best y c) x ≡ cond (same x y) c (map.get best x)
get_with best y None x = map.get-remove prefix_total best y x
get_with best y (Some route) x = map.get-insert prefix_total best y route x

pub get_telling : (tellings : Tellings) (y : PrefixValue) (c : Option Route) (x : PrefixValue)
    → map.get (with_telling tellings y c) x ≡ cond (same x y) c (map.get tellings x)
get_telling tellings y None x = map.get-remove prefix_total tellings y x
get_telling tellings y (Some route) x = map.get-insert prefix_total tellings y route x

-- the other case of a test
pub none_of : (a b : Bool) → (a || b) ≡ false → (a ≡ false) × (b ≡ false)
none_of true b e = absurd cc
none_of false b e = (refl, e)

pub none_there : {A : Type 0} (o : Option A) → is_some o ≡ false → o ≡ None
none_there None e = refl
none_there (Some x) e = absurd cc
