-- The OPEN that the home side puts, and what an OPEN offers (RFC 4271, section 4.2; RFC 4760; RFC 6793; RFC 7607).
use Rattle.std.specs.Prelude.{◌≡◌, ℕ, ◌^◌, ◌<◌, ◌≤◌, List, [], ◌∷◌, ◌++◌, Bool, false, is_some, if◌then◌else◌}
use Rattle.std.specs.Int.{w32, to_be_bytes}
use Rattle.bgp_types.specs.declared.message.Cap.{Cap}
use Rattle.bgp_types.specs.declared.message.OpenMsg.{OpenMsg}
use Rattle.bgp_types.specs.OpenBody.{as_said}
use Rattle.bgp_types.specs.PathOctets.{narrow_as}
use Rattle.bgp_types.specs.Values.{is_no_host, is_short_hold}

-- the capability of four-octet AS numbers, which holds the AS
abbrev pub as_cap : ℕ → Cap
as_cap as_number = record { code = 65; bytes = to_be_bytes w32 as_number }

-- the capability of multiprotocol extensions for IPv4 unicast: AFI 1 in two octets, a reserved octet, and SAFI 1 (RFC 4760, sections 8
-- and 3)
abbrev pub unicast_cap : Cap
unicast_cap = record { code = 1; bytes = 0 ∷ 1 ∷ 0 ∷ 1 ∷ [] }

-- the capabilities in the OPEN of the home side: IPv4 unicast if that is wanted, then the home AS if four-octet AS numbers are offered
abbrev pub home_caps : (home_as : ℕ) → (offered unicast : Bool) → List Cap
home_caps home_as offered unicast = (if unicast then unicast_cap ∷ [] else []) ++ (if offered then as_cap home_as ∷ [] else [])

-- It has the home AS, or AS_TRANS, 23456, if that doesn't fit into two octets; the hold time; the identifier; and the capabilities.
abbrev pub home_open : (home_as hold identifier : ℕ) → (offered unicast : Bool) → OpenMsg
home_open home_as hold identifier offered unicast =
    record { as_number = narrow_as home_as; hold = hold; identifier = identifier; caps = home_caps home_as offered unicast }

-- the number of an AS: 0 is none (RFC 7607, section 2), and it fits into four octets (RFC 6793, section 3)
pub record IsAsNumber (as_number : ℕ) : Type 0 where
  pub some : 1 ≤ as_number
  pub fits : as_number < 2 ^ 32

-- an OPEN that some home side can put
pub record IsHomeOpen (first : OpenMsg) : Type 0 where
  pub home_as : ℕ
  pub offered : Bool
  pub unicast : Bool
  pub is : first ≡ home_open home_as first.hold first.identifier offered unicast
  pub as_number : IsAsNumber home_as
  pub hold_fits : first.hold < 2 ^ 16
  pub hold_time : is_short_hold first.hold ≡ false
  pub host : is_no_host first.identifier ≡ false

-- whether an OPEN has a capability of four-octet AS numbers
abbrev pub offers : OpenMsg → Bool
offers o = is_some (as_said o.caps)
