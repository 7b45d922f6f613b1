-- The body of an OPEN (RFC 4271, sections 4.2 and 6.2; RFC 5492, section 4; RFC 6793, section 4.1).
use Rattle.std.specs.Prelude.{ℕ, ◌==◌, List, [], ◌∷◌, ◌++◌, length, take, drop, get_or, Option, Some}
use Rattle.std.specs.Prelude.{None, Result, Ok, Err, Bool, not, nat_lt, ◌&&◌, if◌then◌else◌}
use Rattle.std.specs.Int.{w16, w32, from_be_bytes}
use Rattle.bgp_types.specs.declared.fault.Expected.{Expected}
use Rattle.bgp_types.specs.declared.message.Cap.{Cap}
use Rattle.bgp_types.specs.declared.message.Notice.{Notice}
use Rattle.bgp_types.specs.declared.message.OpenMsg.{OpenMsg}
use Rattle.bgp_types.specs.Many.{all_of}
use Rattle.bgp_types.specs.PathOctets.{narrow_as}
use Rattle.bgp_types.specs.Values.{is_no_host, is_short_hold}

-- a parameter or a capability: a type or code of one octet, a length of one octet, and a value of that length
unfoldable pub cap_at : List ℕ → Option (Cap × List ℕ)
cap_at [] = None
cap_at (code ∷ []) = None
cap_at (code ∷ size ∷ bytes) = if nat_lt (length bytes) size then None else Some (record { code = code; bytes = take size bytes }, drop size bytes)

-- a fault of an OPEN
abbrev pub open_fault : ℕ → Notice
open_fault subcode = record { code = 2; subcode = subcode; info = [] }

abbrev pub with_caps : Option (List Cap) → Result (List Cap) Notice → Result (List Cap) Notice
with_caps None later = Err (open_fault 0)
with_caps (Some caps) (Err n) = Err n
with_caps (Some caps) (Ok later) = Ok (caps ++ later)

-- the capabilities of the parameters, from left to right: each parameter has type 2 and holds capabilities
unfoldable pub caps_of : List Cap → Result (List Cap) Notice
caps_of [] = Ok []
caps_of (param ∷ params) = if param.code == 2 then with_caps (all_of cap_at param.bytes) (caps_of params) else Err (open_fault 4)

-- the parameters behind their length; nothing where the length is wrong or a parameter runs past the end
unfoldable pub params_of : List ℕ → Option (List Cap)
params_of [] = None
params_of (size ∷ params) = if length params == size then all_of cap_at params else None

abbrev pub with_params : Option (List Cap) → Result (List Cap) Notice
with_params None = Err (open_fault 0)
with_params (Some params) = caps_of params

-- the first AS that a capability of four-octet AS numbers gives; a capability of another length counts as absent
abbrev pub as_said : List Cap → Option ℕ
as_said [] = None
as_said (cap ∷ caps) = if (cap.code == 65) && (length cap.bytes == 4) then Some (from_be_bytes w32 cap.bytes) else as_said caps

-- whether the field is the AS, or AS_TRANS where the AS doesn't fit into two octets
abbrev pub is_field : ℕ → ℕ → Bool
is_field remote_as field = field == narrow_as remote_as

abbrev pub is_said : ℕ → ℕ → Option ℕ → Bool
is_said remote_as field None = is_field remote_as field
is_said remote_as field (Some as_number) = as_number == remote_as

-- the fields of an OPEN before its parameters
abbrev pub version_in : List ℕ → ℕ
version_in body = get_or body 0 0

abbrev pub as_in : List ℕ → ℕ
as_in body = from_be_bytes w16 (take 2 (drop 1 body))

abbrev pub hold_in : List ℕ → ℕ
hold_in body = from_be_bytes w16 (take 2 (drop 3 body))

abbrev pub identifier_in : List ℕ → ℕ
identifier_in body = from_be_bytes w32 (take 4 (drop 5 body))

abbrev pub open_with : List ℕ → List Cap → OpenMsg
open_with body caps = record { as_number = as_in body; hold = hold_in body; identifier = identifier_in body; caps = caps }

-- the fault if the check fails, else what comes after it
abbrev pub unless_fault : {A : Type 0} → Bool → Notice → Result A Notice → Result A Notice
unless_fault fails n later = if fails then Err n else later

-- the last check: where four-octet AS numbers are offered, the AS that the OPEN gives
abbrev pub with_said : Expected → List ℕ → Result (List Cap) Notice → Result OpenMsg Notice
with_said expected body (Err n) = Err n
with_said expected body (Ok caps) =
    unless_fault (expected.offered && not (is_said expected.remote_as (as_in body) (as_said caps))) (open_fault 2) (Ok (open_with body caps))

-- the OPEN of a body, or its first fault
unfoldable pub open_of : Expected → List ℕ → Result OpenMsg Notice
open_of expected body =
    unless_fault (not (version_in body == 4)) (record { code = 2; subcode = 1; info = 0 ∷ 4 ∷ [] })
    (unless_fault (not expected.offered && not (is_field expected.remote_as (as_in body))) (open_fault 2)
    (unless_fault (is_short_hold (hold_in body)) (open_fault 6)
    (unless_fault (is_no_host (identifier_in body)) (open_fault 3)
    (with_said expected body (with_params (params_of (drop 9 body)))))))
