-- A value that is changed in place. steps old r new says that the change may turn the value old into new and return r.
use Rattle.std.specs.Prelude.{◌≡◌, List, Option, Some, None}
use Rattle.std.specs.FinMap as map
use Rattle.std.specs.FinMap.{find, put}
use Rattle.bgp_types.specs.Prefixes.{PrefixValue}
use Rattle.bgp_types.specs.Tables.{prefix_cmp}

-- ---- of entries

-- p had the value old, and has the value new.
pub record IsChanged {V R : Type 0} (steps : V → R → V → Type 0) (p : PrefixValue) (r : R) (es fs : List (PrefixValue × V)) : Type 0 where
  pub old : V
  pub new : V
  pub there : find prefix_cmp p es ≡ Some old
  pub step : steps old r new
  pub entries : fs ≡ put prefix_cmp p new es

-- p has no value, and nothing changed.
pub record IsAbsent {V : Type 0} (p : PrefixValue) (es fs : List (PrefixValue × V)) : Type 0 where
  pub none : find prefix_cmp p es ≡ None
  pub entries : fs ≡ es

abbrev pub ChangeResult : {V R : Type 0} → (V → R → V → Type 0) → PrefixValue → Option R → List (PrefixValue × V) → List (PrefixValue × V) → Type 0
ChangeResult steps p (Some r) es fs = IsChanged steps p r es fs
ChangeResult steps p None es fs = IsAbsent p es fs

-- ---- of a table

-- p had the value old, and has the value new. All else is unchanged.
pub record ChangesAt {V R : Type 0} (steps : V → R → V → Type 0) (p : PrefixValue) (r : R) (before after : map.FinMap prefix_cmp V) : Type 0 where
  pub old : V
  pub new : V
  pub there : map.get before p ≡ Some old
  pub step : steps old r new
  pub contents : after ≡ map.insert before p new
