-- Which routes an UPDATE changed.
use Rattle.std.specs.Prelude.{◌≡◌, ◌≢◌, List, Option, None, true, false, All, if◌then◌else◌}
use Rattle.std.specs.FinMap as map
use Rattle.std.specs.List.{list_any}
use Rattle.std.specs.List.Sorted.{IsStrictlySortedBy}
use Rattle.bgp_types.specs.declared.attrs.Attrs.{Attrs}
use Rattle.bgp_types.specs.declared.message.Update.{Update}
use Rattle.bgp_types.specs.Prefixes.{PrefixValue, same_prefix}
use Rattle.bgp_types.specs.Tables.{prefix_cmp}
use Rattle.bgp_story.specs.Readings.{Routes}

-- Exactly these prefixes have another route than before, where having none counts as different. They are in ascending order.
pub record Changed (before after : Routes) (prefixes : List PrefixValue) : Type 0 where
  pub rising : IsStrictlySortedBy prefix_cmp prefixes
  pub changed : All (λ p. map.get after p ≢ map.get before p) prefixes
  pub others : (p : PrefixValue) → list_any (same_prefix p) prefixes ≡ false → map.get after p ≡ map.get before p

-- ---- an UPDATE, prefix by prefix

-- The attributes that an UPDATE gives its prefixes: a prefix that it withdraws has none, unless it announces that prefix too (RFC 4271, section 4.3).
abbrev pub given_by_update : Update → PrefixValue → Option Attrs
given_by_update u p = if list_any (same_prefix p) u.nlri then u.attrs else None

-- a withdrawal, which keeps the routes that are announced
abbrev pub withdraw_unless : List PrefixValue → Routes → PrefixValue → Routes
withdraw_unless announced routes p = if list_any (same_prefix p) announced then routes else map.remove routes p

-- Each prefix of the list has what it is given, and had something else before. Any other prefix has what it had before.
pub record RoutesMoved (to : PrefixValue → Option Attrs) (before now : Routes) (prefixes : List PrefixValue) : Type 0 where
  pub moved : (p : PrefixValue) → list_any (same_prefix p) prefixes ≡ true → (map.get now p ≡ to p) × (map.get now p ≢ map.get before p)
  pub others : (p : PrefixValue) → list_any (same_prefix p) prefixes ≡ false → map.get now p ≡ map.get before p
