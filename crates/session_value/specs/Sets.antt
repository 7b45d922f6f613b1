-- Sets and lists of prefixes, the routes by prefix, and how a set follows a table.
use Rattle.std.specs.Prelude.{◌≡◌, ◌≢◌, Bool, true, false, ◌⊎◌, is_some, List, All, IsTrue, Option}
use Rattle.std.specs.FinMap as map
use Rattle.std.specs.List.{list_any}
use Rattle.std.specs.List.Sorted.{IsStrictlySortedBy}
use Rattle.bgp_types.specs.Prefixes.{PrefixValue, same_prefix}
use Rattle.bgp_types.specs.Tables.{prefix_cmp}
use Rattle.bgp_types.specs.declared.attrs.Route.{Route}
use Rattle.route_policy.specs.declared.best.Best.{Best}
use Rattle.route_policy.specs.declared.entry.Entry.{Entry}

-- what a peering gives, by prefix
abbrev pub Entries : Type 0
Entries = map.FinMap prefix_cmp Entry

-- the routes that another router told
abbrev pub Tellings : Type 0
Tellings = map.FinMap prefix_cmp Route

-- the best route to each prefix, and its source
abbrev pub BestRoutes : Type 0
BestRoutes = map.FinMap prefix_cmp Best

-- a set of prefixes
abbrev pub Prefixes : Type 0
Prefixes = map.FinMap prefix_cmp (Unit {0})

abbrev pub has : Prefixes → PrefixValue → Bool
has prefixes prefix = is_some (map.get prefixes prefix)

-- the prefixes whose values differ between two tables, and no others, are added to the set
pub record Marks {A : Type 0} (before : Prefixes) (old new : map.FinMap prefix_cmp A) (after : Prefixes) : Type 0 where
  pub marked : (p : PrefixValue) → has after p ≡ true → (has before p ≡ true) ⊎ (map.get new p ≢ map.get old p)
  pub others : (p : PrefixValue) → has after p ≡ false → (has before p ≡ false) × (map.get new p ≡ map.get old p)

-- the same when one prefix gets this value, or none: it is added to the set if and only if it had another value
abbrev pub MarksOne : {A : Type 0} → Prefixes → PrefixValue → (old new : Option A) → Prefixes → Type 0
MarksOne before prefix old new after = ((new ≡ old) × (after ≡ before)) ⊎ ((new ≢ old) × (after ≡ map.insert before prefix tt))

-- exactly the prefixes of this kind, in ascending order: there is one such list
pub record Lists (Is : PrefixValue → Type 0) (prefixes : List PrefixValue) : Type 0 where
  pub rising : IsStrictlySortedBy prefix_cmp prefixes
  pub each : All Is prefixes
  pub all : (p : PrefixValue) → Is p → IsTrue (list_any (same_prefix p) prefixes)
