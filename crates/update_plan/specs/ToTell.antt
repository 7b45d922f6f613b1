-- What a router has to tell on a session (RFC 4271, section 9.2).
use Rattle.std.specs.Prelude.{◌≡◌, ◌≢◌, Option, true, false}
use Rattle.std.specs.FinMap as map
use Rattle.bgp_types.specs.declared.attrs.Attrs.{Attrs}
use Rattle.bgp_types.specs.Prefixes.{PrefixValue}
use Rattle.bgp_story.specs.Readings.{Routes}
use Rattle.route_policy.specs.Telling.{OutSide, tell_out}
use Rattle.session_value.specs.Sets.{Prefixes, has}
use Rattle.rib_stages.specs.Values.{RibValue}

-- the prefix is due and isn't dirty
abbrev pub IsDueAndClean : Prefixes → Prefixes → PrefixValue → Type 0
IsDueAndClean due dirty prefix = (has due prefix ≡ true) × (has dirty prefix ≡ false)

-- the prefix waits, and what was told of it isn't what is to be told now
abbrev pub IsPrefixToTell : Prefixes → Prefixes → Routes → (PrefixValue → Option Attrs) → PrefixValue → Type 0
IsPrefixToTell due dirty adj_rib_out to_tell prefix = IsDueAndClean due dirty prefix × (map.get adj_rib_out prefix ≢ to_tell prefix)

-- what a router tells of a prefix on a session
abbrev pub rib_to_tell : RibValue → OutSide → PrefixValue → Option Attrs
rib_to_tell rib out prefix = tell_out rib.config.home_as out prefix (map.get rib.best prefix)
