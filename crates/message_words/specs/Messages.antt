-- A message in words, and octets as a session reads them.
use Rattle.std.specs.Prelude.{ℕ, ◌==◌, List, [], ◌++◌, Option, Some, None, Result, Ok, Err, Bool, is_some, codes, decimal, if◌then◌else◌}
use Rattle.std.specs.List.{flat_map}
use Rattle.bgp_types.specs.declared.message.Cap.{Cap}
use Rattle.bgp_types.specs.declared.fault.Expected.{Expected}
use Rattle.bgp_types.specs.declared.message.Message.{Message}
use Rattle.bgp_types.specs.declared.message.Message.TheVariants.{OpenMsg, UpdateMsg, NoticeMsg, KeepaliveMsg}
use Rattle.bgp_types.specs.declared.message.Notice.{Notice}
use Rattle.bgp_types.specs.declared.message.OpenMsg as open_type
use Rattle.bgp_types.specs.FirstFault.{message_of}
use Rattle.bgp_types.specs.Header.{header_fault, kind_in}
use Rattle.bgp_types.specs.OpenBody.{as_said}
use Rattle.bgp_types.specs.Texts.{address_text}
use Rattle.hex.specs.Hex.{encode_lower}
use Rattle.message_words.specs.Notices.{notice_words}
use Rattle.message_words.specs.Updates.{update_words}

-- ---- an OPEN

-- a capability, by its code
abbrev pub cap_words : Cap → List ℕ
cap_words cap = codes " capability " ++ decimal cap.code

-- the AS that the capability of four-octet AS numbers gives (RFC 6793, section 3)
abbrev pub as4_words : Option ℕ → List ℕ
as4_words None = []
as4_words (Some as_number) = codes " as4 " ++ decimal as_number

-- its field of two octets, hold time and identifier, and its capabilities
abbrev pub open_words : open_type.OpenMsg → List ℕ
open_words o = codes "OPEN as " ++ decimal o.as_number ++ codes " hold " ++ decimal o.hold ++ codes " id " ++ address_text o.identifier
    ++ flat_map cap_words o.caps ++ as4_words (as_said o.caps)

-- ---- a message

abbrev pub notification_words : Notice → List ℕ
notification_words n = codes "NOTIFICATION " ++ notice_words n

abbrev pub message_words : (full : Bool) → Message → List ℕ
message_words full (OpenMsg o) = open_words o
message_words full (UpdateMsg u) = update_words full u
message_words full (NoticeMsg n) = notification_words n
message_words full KeepaliveMsg = codes "KEEPALIVE"

-- ---- octets

-- the type that a sound header gives
abbrev pub kind_name : ℕ → List ℕ
kind_name kind = if kind == 1 then codes "OPEN" else if kind == 2 then codes "UPDATE" else if kind == 3 then codes "NOTIFICATION" else codes "KEEPALIVE"

abbrev pub type_words : List ℕ → List ℕ
type_words bytes = if is_some (header_fault bytes) then codes "header" else kind_name (kind_in bytes)

abbrev pub in_full : (full : Bool) → List ℕ → List ℕ
in_full full bytes = if full then codes " octets " ++ encode_lower bytes else []

abbrev pub fault_words : Notice → List ℕ
fault_words n = codes " with fault " ++ notice_words n

-- octets that are no message or that the session doesn't accept: the type, the fault, and in full the octets
abbrev pub faulty_words : (full : Bool) → List ℕ → Notice → List ℕ
faulty_words full bytes n = type_words bytes ++ fault_words n ++ in_full full bytes

abbrev pub answer_words : (full : Bool) → List ℕ → Result Message Notice → List ℕ
answer_words full bytes (Ok message) = message_words full message
answer_words full bytes (Err n) = faulty_words full bytes n

-- what a session that expects this reads
abbrev pub read_words : (full : Bool) → Expected → List ℕ → List ℕ
read_words full expected bytes = answer_words full bytes (message_of expected bytes)
