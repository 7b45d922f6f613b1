-- The header of a message, and the messages of a stream (RFC 4271, sections 4.1 and 6.1).
use Rattle.std.specs.Prelude.{ℕ, ◌==◌, List, [], ◌∷◌, length, take, drop, get_or, Option, Some, None, Bool, nat_lt, nat_le, ◌||◌, is_some, if◌then◌else◌}
use Rattle.std.specs.List.{list_all}
use Rattle.std.specs.Int.{w16, from_be_bytes, to_be_bytes}
use Rattle.bgp_types.specs.declared.fault.HeaderFault.{HeaderFault}
use Rattle.bgp_types.specs.declared.fault.HeaderFault.TheVariants.{NotSynchronized, BadLength, BadType}
use Rattle.bgp_types.specs.declared.message.Notice.{Notice}

-- an OPEN has at least 29 octets, an UPDATE at least 23, a NOTIFICATION at least 21, a KEEPALIVE exactly 19
abbrev pub has_room : ℕ → ℕ → Bool
has_room kind len = if kind == 1 then nat_le 29 len else if kind == 2 then nat_le 23 len else if kind == 3 then nat_le 21 len else len == 19

abbrev pub fault_of_kind : ℕ → ℕ → Option HeaderFault
fault_of_kind kind len =
    if nat_lt len 19 || nat_lt 4096 len then Some (BadLength len)
    else if (kind == 0) || nat_lt 4 kind then Some (BadType kind)
    else if has_room kind len then None
    else Some (BadLength len)

-- the length and the type that a header gives
abbrev pub len_in : List ℕ → ℕ
len_in bytes = from_be_bytes w16 (take 2 (drop 16 bytes))

abbrev pub kind_in : List ℕ → ℕ
kind_in bytes = get_or bytes 18 0

-- the first fault of a header: in the marker, the length, the type, or the length for the type
unfoldable pub header_fault : List ℕ → Option HeaderFault
header_fault bytes = if list_all (λ b. b == 255) (take 16 bytes) then fault_of_kind (kind_in bytes) (len_in bytes) else Some NotSynchronized

-- the NOTIFICATION that answers a header fault
abbrev pub header_notice : HeaderFault → Notice
header_notice NotSynchronized = record { code = 1; subcode = 1; info = [] }
header_notice (BadLength len) = record { code = 1; subcode = 2; info = to_be_bytes w16 len }
header_notice (BadType kind) = record { code = 1; subcode = 3; info = kind ∷ [] }

-- the message at the front, if it is whole and its header is sound, and the bytes after it
unfoldable pub frame_at : List ℕ → Option (List ℕ × List ℕ)
frame_at bytes =
    if nat_lt (length bytes) 19 || is_some (header_fault bytes) then None
    else if nat_lt (length bytes) (len_in bytes) then None
    else Some (take (len_in bytes) bytes, drop (len_in bytes) bytes)
