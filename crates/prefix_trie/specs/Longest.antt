-- The longest prefix that covers another.
use Rattle.std.specs.Prelude.{◌≤◌, Option, Some, None}
use Rattle.bgp_types.specs.Prefixes.{PrefixValue, Covers}

-- Among the prefixes present, p is the longest that covers host.
pub record IsLongest (has : PrefixValue → Type 0) (host p : PrefixValue) : Type 0 where
  pub there : has p
  pub covers : Covers p host
  pub longest : (q : PrefixValue) → has q → Covers q host → q.len ≤ p.len

-- None of them covers host.
pub record CoversNone (has : PrefixValue → Type 0) (host : PrefixValue) : Type 0 where
  pub none : (q : PrefixValue) → has q → Covers q host → ⊥

-- the longest that covers host, None if none does
abbrev pub LongestOf : (has : PrefixValue → Type 0) → PrefixValue → Option PrefixValue → Type 0
LongestOf has host None = CoversNone has host
LongestOf has host (Some p) = IsLongest has host p
