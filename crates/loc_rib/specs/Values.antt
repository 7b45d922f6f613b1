-- The Loc-RIB as its callers see it (RFC 4271, section 3.2).
use Rattle.std.specs.Prelude.{◌≡◌, ◌≢◌, Bool, true, false, Option, Some, None, refl}
use Rattle.std.specs.Coded.{Coded, code_by, coded×}
use base.Stored.{coded_unit}
use Rattle.std.specs.FinMap as map
use Rattle.bgp_types.specs.Prefixes.{PrefixValue}
use Rattle.bgp_types.specs.Tables.{prefix_cmp, coded_prefix}
use Rattle.route_policy.specs.declared.best.Best.{Best}

-- the best route to each prefix that has one, and the prefixes that have to be decided again
pub record LocValue : Type 0 where
  pub best : map.FinMap prefix_cmp Best
  pub dirty : map.FinMap prefix_cmp (Unit {0})

-- it is stored as the pair of the two
abbrev pub coded_loc : Coded Best → Coded LocValue
coded_loc best = code_by (map.FinMap prefix_cmp Best × map.FinMap prefix_cmp (Unit {0}))
    (coded× (map.code coded_prefix best) (map.code coded_prefix coded_unit)) (λ l. (l.best, l.dirty)) (λ p. record { best = p.0; dirty = p.1 }) (λ _. refl)

-- a table with this value for a prefix, or with none for it
abbrev pub with_value : {A : Type 0} → map.FinMap prefix_cmp A → PrefixValue → Option A → map.FinMap prefix_cmp A
with_value table prefix None = map.remove table prefix
with_value table prefix (Some value) = map.insert table prefix value

-- best routes with this one for a prefix, or with none for it
abbrev pub with_best : map.FinMap prefix_cmp Best → PrefixValue → Option Best → map.FinMap prefix_cmp Best
with_best = with_value

-- whether two differ
abbrev pub DifferIf : {A : Type 0} → A → A → Bool → Type 0
DifferIf x y true = x ≢ y
DifferIf x y false = x ≡ y
