-- A message as JSON, and octets as a session reads them.
use Rattle.std.specs.Prelude.{ℕ, List, [], ◌∷◌, map, Option, Some, None, Result, Ok, Err, codes}
use Rattle.serde_json.specs.Data.{Data, null, string}
use Rattle.bgp_types.specs.Prefixes.{PrefixValue}
use Rattle.bgp_types.specs.FirstFault.{message_of}
use Rattle.bgp_types.specs.OpenBody.{as_said}
use Rattle.bgp_types.specs.Texts.{address_text, prefix_text}
use Rattle.bgp_types.specs.declared.attrs.Attrs.{Attrs}
use Rattle.bgp_types.specs.declared.fault.Expected.{Expected}
use Rattle.bgp_types.specs.declared.message.Message.{Message}
use Rattle.bgp_types.specs.declared.message.Message.TheVariants.{OpenMsg, UpdateMsg, NoticeMsg, KeepaliveMsg}
use Rattle.bgp_types.specs.declared.message.Notice.{Notice}
use Rattle.bgp_types.specs.declared.message.OpenMsg as open_type
use Rattle.bgp_types.specs.declared.message.Update.{Update}
use Rattle.hex.specs.Hex.{encode_lower}
use Rattle.message_words.specs.Messages.{type_words}
use Rattle.message_words.specs.Names.{fault_name}
use Rattle.message_words.specs.Notices.{communication}
use Rattle.report_json.specs.Run.{path_json}
use Rattle.report_json.specs.Values.{count, count_or_null, text_or_null, list_of, fields}

abbrev pub prefixes_json : List PrefixValue → Data
prefixes_json prefixes = list_of (map (λ p. string (prefix_text p)) prefixes)

-- ---- messages

-- an OPEN: its field of two octets, the AS in four octets if it has that capability, the codes of its capabilities, its hold time and its identifier
abbrev pub open_json : open_type.OpenMsg → Data
open_json o = fields
    ((codes "as", count o.as_number) ∷ (codes "as4", count_or_null (as_said o.caps)) ∷ (codes "capabilities", list_of (map (λ c. count c.code) o.caps))
    ∷ (codes "hold", count o.hold) ∷ (codes "id", string (address_text o.identifier)) ∷ (codes "type", string (codes "OPEN")) ∷ [])

-- the path of an UPDATE that announces
abbrev pub some_path_json : Option Attrs → Data
some_path_json None = null
some_path_json (Some a) = path_json a.path

abbrev pub update_json : Update → Data
update_json u = fields
    ((codes "announce", prefixes_json u.nlri) ∷ (codes "path", some_path_json u.attrs) ∷ (codes "type", string (codes "UPDATE"))
    ∷ (codes "withdraw", prefixes_json u.withdrawn) ∷ [])

-- what a NOTIFICATION tells: code and subcode and their name, its data in hexadecimal, and the text that comes with a shutdown
abbrev pub notice_json : Notice → Data
notice_json n = fields
    ((codes "code", count n.code) ∷ (codes "data", string (encode_lower n.info)) ∷ (codes "name", text_or_null (fault_name n.code n.subcode))
    ∷ (codes "subcode", count n.subcode) ∷ (codes "text", text_or_null (communication n)) ∷ [])

abbrev pub notification_json : Notice → Data
notification_json n = fields ((codes "notice", notice_json n) ∷ (codes "type", string (codes "NOTIFICATION")) ∷ [])

abbrev pub keepalive_json : Data
keepalive_json = fields ((codes "type", string (codes "KEEPALIVE")) ∷ [])

abbrev pub message_json : Message → Data
message_json (OpenMsg o) = open_json o
message_json (UpdateMsg u) = update_json u
message_json (NoticeMsg n) = notification_json n
message_json KeepaliveMsg = keepalive_json

-- ---- octets

-- octets that are no message or that the session doesn't accept: the type that their header gives, and the fault
abbrev pub faulty_json : List ℕ → Notice → Data
faulty_json bytes n = fields ((codes "fault", notice_json n) ∷ (codes "type", string (type_words bytes)) ∷ [])

abbrev pub answer_json : List ℕ → Result Message Notice → Data
answer_json bytes (Ok message) = message_json message
answer_json bytes (Err n) = faulty_json bytes n

-- what a session that expects this reads
abbrev pub read_json : Expected → List ℕ → Data
read_json expected bytes = answer_json bytes (message_of expected bytes)
