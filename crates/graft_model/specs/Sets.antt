-- How a set of prefixes changes.
use Rattle.std.specs.Prelude.{◌≡◌, Bool, not, ◌&&◌, ◌||◌}
use Rattle.bgp_types.specs.Prefixes.{PrefixValue}
use Rattle.session_value.specs.Sets.{Prefixes, has}
pub use Rattle.session_value.specs.Sets.{Lists}

-- the set after has the members of the set before, and what passes the test
pub record Adds (before : Prefixes) (test : PrefixValue → Bool) (after : Prefixes) : Type 0 where
  pub members : (p : PrefixValue) → has after p ≡ (has before p || test p)

-- the set after has the members of the set before that don't pass the test
pub record Drops (before : Prefixes) (test : PrefixValue → Bool) (after : Prefixes) : Type 0 where
  pub members : (p : PrefixValue) → has after p ≡ (has before p && not (test p))
