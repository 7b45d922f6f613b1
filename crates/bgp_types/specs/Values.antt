-- Which values a field can have (RFC 4271, sections 4.2, 4.3 and 6).
use Rattle.std.specs.Prelude.{ℕ, ◌==◌, Bool, nat_lt, nat_le, ◌||◌, ◌&&◌}
use Rattle.bgp_types.specs.declared.attrs.RawAttr.{RawAttr}

-- 0.0.0.0, or 224.0.0.0 and above: an address that no host has
abbrev pub is_no_host : ℕ → Bool
is_no_host address = (address == 0) || nat_le 3758096384 address

-- a hold time of 1 or 2 seconds
abbrev pub is_short_hold : ℕ → Bool
is_short_hold hold = (hold == 1) || (hold == 2)

-- An unknown type. The known types are 1 to 7, 17 and 18.
abbrev pub is_other : ℕ → Bool
is_other kind = (kind == 0) || (nat_lt 7 kind && nat_lt kind 17) || nat_lt 18 kind

abbrev pub other_kind : RawAttr → ℕ
other_kind a = a.kind
