-- What hostile remotes say, and the stories of the sessions that hear it: home AS 65000 and remote AS 65001, with no hold
-- time, and AS numbers of two octets (RFC 4271, sections 4 and 6; RFC 5492, section 4).
use Rattle.std.specs.Prelude.{◌≡◌, ℕ, ◌<◌, length, take, List, [], ◌∷◌, ◌++◌, None, ◌⊎◌}
use Rattle.std.specs.FinMap as map
use Rattle.bgp_types.specs.declared.message.Message.TheVariants.{OpenMsg, NoticeMsg, KeepaliveMsg}
use Rattle.bgp_types.specs.declared.message.SessionState.{SessionState}
use Rattle.bgp_types.specs.declared.message.SessionState.TheVariants.{Closed}
use Rattle.bgp_types.specs.Header.{frame_at, header_fault}
use Rattle.bgp_types.specs.Spelling.{framed, marker}
use Rattle.bgp_story.specs.declared.line.Line.{Line}
use Rattle.bgp_story.specs.declared.line.Line.TheVariants.{Put, Got}
use Rattle.bgp_story.specs.Readings.{Routes, IsLegal, put_bytes, got_bytes, heard}
use Rattle.bgp_story.specs.WorkedSessions.{worked_peering, home, open_bytes, keepalive_bytes, update_bytes, joined_lines, ten, heard_attrs}

-- These octets begin with neither a whole message nor a header with a fault.
abbrev pub HasNoFrame : List ℕ → Type 0
HasNoFrame rest = (frame_at rest ≡ None) × ((length rest < 19) ⊎ (header_fault rest ≡ None))

-- The story of a session that hears what a remote says: as much as it can read, unless it is closed; what it puts; and the routes that it heard.
pub record HearsRemote (said : List ℕ) (lines : List Line) (state : SessionState) (put : List ℕ) (routes : Routes) : Type 0 where
  pub legal : IsLegal (worked_peering 0) lines state
  pub rest : List ℕ
  pub read : got_bytes lines ++ rest ≡ said
  pub ended : (state ≡ Closed) ⊎ HasNoFrame rest
  pub put_is : put_bytes (worked_peering 0) lines ≡ put
  pub routes_are : heard (worked_peering 0) lines ≡ routes

abbrev pub no_routes : Routes
no_routes = map.empty

-- 10.0.0.0/8
abbrev pub one_route : Routes
one_route = map.insert map.empty ten heard_attrs

-- the OPEN of the home side and its KEEPALIVE
abbrev pub home_opening : List ℕ
home_opening = framed 1 (0x04 ∷ 0xFD ∷ 0xE8 ∷ 0x00 ∷ 0x00 ∷ 0x0A ∷ 0xFF ∷ 0x00 ∷ 0x01 ∷ 0x00 ∷ []) ++ keepalive_bytes

-- an OPEN and a KEEPALIVE, and what is said after them
abbrev pub opening_and : List ℕ → List ℕ
opening_and more = open_bytes ++ (keepalive_bytes ++ more)

-- the story of a session that was established
abbrev pub established_and : List Line → List Line
established_and more = joined_lines 0 ++ more

-- a message or a header with a fault is got, and a NOTIFICATION is put
abbrev pub refused : List ℕ → ℕ → ℕ → List ℕ → List Line
refused bytes code subcode info = Got bytes ∷ Put (NoticeMsg (record { code = code; subcode = subcode; info = info })) ∷ []

-- ---- what is said

-- an UPDATE without its last octet
abbrev pub cut_update : List ℕ
cut_update = take 42 update_bytes

-- an UPDATE whose header says 4,096 octets, of which 43 arrive
abbrev pub endless_update : List ℕ
endless_update = marker ++ (0x10 ∷ 0x00 ∷ 0x02 ∷ 0x00 ∷ 0x00 ∷ 0x0F ∷ 0xE5 ∷ 0x40 ∷ 0x01 ∷ 0x01 ∷ 0x00 ∷ 0x40
    ∷ 0x02 ∷ 0x04 ∷ 0x02 ∷ 0x01 ∷ 0xFD ∷ 0xE9 ∷ 0x40 ∷ 0x03 ∷ 0x04 ∷ 0xC0 ∷ 0x00 ∷ 0x02 ∷ 0x01 ∷ 0x08 ∷ 0x0A ∷ [])

-- an UPDATE with one bit flipped: the prefix of 8 bits has 40
abbrev pub flipped_update : List ℕ
flipped_update = framed 2 (0x00 ∷ 0x00 ∷ 0x00 ∷ 0x12 ∷ 0x40 ∷ 0x01 ∷ 0x01 ∷ 0x00 ∷ 0x40 ∷ 0x02 ∷ 0x04
    ∷ 0x02 ∷ 0x01 ∷ 0xFD ∷ 0xE9 ∷ 0x40 ∷ 0x03 ∷ 0x04 ∷ 0xC0 ∷ 0x00 ∷ 0x02 ∷ 0x01 ∷ 0x28 ∷ 0x0A ∷ [])

-- headers: one whose marker has a bit flipped, one of 4,097 octets, and one of type 5
abbrev pub flipped_marker : List ℕ
flipped_marker = 0xFE ∷ (take 15 marker ++ (0x00 ∷ 0x13 ∷ 0x04 ∷ []))

abbrev pub too_long_header : List ℕ
too_long_header = marker ++ (0x10 ∷ 0x01 ∷ 0x02 ∷ [])

abbrev pub strange_type : List ℕ
strange_type = framed 5 []

-- an OPEN with 26 capabilities: codes 0 to 9, 64 to 71, 73, 128, 130, 131 and 255 in one parameter, and codes 1, 65 and 200
-- in three
abbrev pub capable_open : List ℕ
capable_open = framed 1 (0x04 ∷ 0xFD ∷ 0xE9 ∷ 0x00 ∷ 0xB4 ∷ 0xC0 ∷ 0x00 ∷ 0x02 ∷ 0x01 ∷ 0x69 ∷ 0x02 ∷ 0x56 ∷ 0x00 ∷ 0x00 ∷ 0x01 ∷ 0x04 ∷ 0x00
    ∷ 0x01 ∷ 0x00 ∷ 0x01 ∷ 0x02 ∷ 0x00 ∷ 0x03 ∷ 0x05 ∷ 0x00 ∷ 0x01 ∷ 0x00 ∷ 0x01 ∷ 0x01 ∷ 0x04 ∷ 0x00 ∷ 0x05 ∷ 0x06 ∷ 0x00 ∷ 0x01 ∷ 0x00 ∷ 0x01
    ∷ 0x00 ∷ 0x01 ∷ 0x06 ∷ 0x00 ∷ 0x07 ∷ 0x01 ∷ 0x01 ∷ 0x08 ∷ 0x00 ∷ 0x09 ∷ 0x01 ∷ 0x03 ∷ 0x40 ∷ 0x02 ∷ 0x00 ∷ 0x78 ∷ 0x41 ∷ 0x04 ∷ 0x00
    ∷ 0x00 ∷ 0xFD ∷ 0xE9 ∷ 0x42 ∷ 0x00 ∷ 0x43 ∷ 0x01 ∷ 0x00 ∷ 0x44 ∷ 0x01 ∷ 0x02 ∷ 0x45 ∷ 0x04 ∷ 0x00 ∷ 0x01 ∷ 0x01 ∷ 0x01 ∷ 0x46 ∷ 0x00 ∷ 0x47
    ∷ 0x07 ∷ 0x00 ∷ 0x01 ∷ 0x01 ∷ 0x80 ∷ 0x00 ∷ 0x00 ∷ 0x78 ∷ 0x49 ∷ 0x02 ∷ 0x01 ∷ 0x61 ∷ 0x80 ∷ 0x00 ∷ 0x82 ∷ 0x00 ∷ 0x83 ∷ 0x00 ∷ 0xFF ∷ 0x02
    ∷ 0xFF ∷ 0xFF ∷ 0x02 ∷ 0x06 ∷ 0x01 ∷ 0x04 ∷ 0x00 ∷ 0x02 ∷ 0x00 ∷ 0x01 ∷ 0x02 ∷ 0x03 ∷ 0x41 ∷ 0x01 ∷ 0x00 ∷ 0x02 ∷ 0x02 ∷ 0xC8 ∷ 0x00 ∷ [])

-- ---- the outcome

abbrev pub capable_lines : List Line
capable_lines = Put (OpenMsg (home 0)) ∷ Got capable_open ∷ Put KeepaliveMsg ∷ Got keepalive_bytes ∷ Got update_bytes ∷ Got keepalive_bytes ∷ []
