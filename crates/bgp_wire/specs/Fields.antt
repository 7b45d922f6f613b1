-- The fields of a body, regardless of where they are in memory, and the prefixes in them.
use Rattle.std.specs.Prelude.{ℕ, List, Option}
use Rattle.std.specs.Option.{option_map}
use Rattle.bgp_types.specs.Prefixes.{PrefixValue, WirePrefix, prefix_at, prefix_said}
use Rattle.bgp_types.specs.UpdateBody.{Fields}
use Rattle.bgp_wire.specs.declared.update.BodyFields.{BodyFields}

abbrev pub fields : BodyFields → Fields
fields f = record { withdrawn = f.withdrawn.now; attrs = f.attrs.now; nlri = f.nlri.now }

-- the prefix at the front, and the octets after it
abbrev pub front_said : List ℕ → Option (PrefixValue × List ℕ)
front_said bytes = option_map (λ (x : WirePrefix × List ℕ). (let y : PrefixValue × List ℕ = (prefix_said x.0, x.1) in y)) (prefix_at bytes)
