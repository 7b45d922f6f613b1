-- Worked stories: home AS 65000 and remote AS 65001, where neither offers four-octet AS numbers, and home AS
-- 4200000000 and remote AS 4200000001, where both do (RFC 4271, section 4; RFC 6793, section 4.1).
use Rattle.std.specs.Prelude.{ℕ, List, [], ◌∷◌, ◌++◌, Some, None, true, false}
use Rattle.bgp_types.specs.declared.attrs.Attrs.{Attrs}
use Rattle.bgp_types.specs.declared.attrs.Origin.TheVariants.{Igp}
use Rattle.bgp_types.specs.declared.message.Message.TheVariants.{OpenMsg, UpdateMsg, NoticeMsg, KeepaliveMsg}
use Rattle.bgp_types.specs.declared.message.OpenMsg as open_type
use Rattle.bgp_types.specs.declared.message.Update.{Update}
use Rattle.bgp_types.specs.declared.path.PathPart.TheVariants.{Sequence}
use Rattle.bgp_types.specs.Prefixes.{PrefixValue}
use Rattle.bgp_types.specs.Spelling.{framed}
use Rattle.bgp_story.specs.declared.line.Line.{Line}
use Rattle.bgp_story.specs.declared.line.Line.TheVariants.{Put, Got, Tick}
use Rattle.bgp_story.specs.Legal.{Peering}
use Rattle.bgp_story.specs.Opens.{home_open}

abbrev pub home : ℕ → open_type.OpenMsg
home hold = home_open 65000 hold 0x0AFF0001 false false

abbrev pub worked_peering : ℕ → Peering
worked_peering hold = record { first = home hold; remote_as = 65001 }

-- an OPEN of the remote, with hold time 180
abbrev pub open_bytes : List ℕ
open_bytes = framed 1 (0x04 ∷ 0xFD ∷ 0xE9 ∷ 0x00 ∷ 0xB4 ∷ 0xC0 ∷ 0x00 ∷ 0x02 ∷ 0x01 ∷ 0x00 ∷ [])

abbrev pub keepalive_bytes : List ℕ
keepalive_bytes = framed 4 []

-- 10.0.0.0/8 is announced, with path 65001 and next hop 192.0.2.1
abbrev pub update_bytes : List ℕ
update_bytes = framed 2 (0x00 ∷ 0x00 ∷ 0x00 ∷ 0x12 ∷ 0x40 ∷ 0x01 ∷ 0x01 ∷ 0x00 ∷ 0x40 ∷ 0x02 ∷ 0x04
    ∷ 0x02 ∷ 0x01 ∷ 0xFD ∷ 0xE9 ∷ 0x40 ∷ 0x03 ∷ 0x04 ∷ 0xC0 ∷ 0x00 ∷ 0x02 ∷ 0x01 ∷ 0x08 ∷ 0x0A ∷ [])

-- Cease, Administrative Shutdown
abbrev pub cease_bytes : List ℕ
cease_bytes = framed 3 (0x06 ∷ 0x02 ∷ [])

abbrev pub sent_lines : ℕ → List Line
sent_lines hold = Put (OpenMsg (home hold)) ∷ []

abbrev pub confirmed_lines : ℕ → List Line
confirmed_lines hold = Put (OpenMsg (home hold)) ∷ Got open_bytes ∷ Put KeepaliveMsg ∷ []

abbrev pub joined_lines : ℕ → List Line
joined_lines hold = Put (OpenMsg (home hold)) ∷ Got open_bytes ∷ Put KeepaliveMsg ∷ Got keepalive_bytes ∷ []

abbrev pub heard_lines : ℕ → List Line
heard_lines hold = Put (OpenMsg (home hold)) ∷ Got open_bytes ∷ Put KeepaliveMsg ∷ Got keepalive_bytes ∷ Got update_bytes ∷ []

-- the attributes that are heard with 10.0.0.0/8
abbrev pub heard_attrs : Attrs
heard_attrs = record { origin = Igp; path = Sequence (65001 ∷ []) ∷ []; next_hop = 0xC0000201; med = None; atomic = false; aggregator = None; unknown = [] }

-- ---- routes that home advertises

-- 10.0.0.0/8
abbrev pub ten : PrefixValue
ten = record { address = 0x0A000000; len = 8 }

-- ORIGIN IGP, this path, and next hop 192.0.2.2
abbrev pub attrs_over : List ℕ → Attrs
attrs_over ases = record { origin = Igp; path = Sequence ases ∷ []; next_hop = 0xC0000202; med = None; atomic = false; aggregator = None; unknown = [] }

abbrev pub announcement_over : List ℕ → Update
announcement_over ases = record { withdrawn = []; attrs = Some (attrs_over ases); nlri = ten ∷ [] }

abbrev pub withdrawal : Update
withdrawal = record { withdrawn = ten ∷ []; attrs = None; nlri = [] }

-- 10.0.0.0/8 is announced, and then withdrawn
abbrev pub told_lines : ℕ → List Line
told_lines hold = joined_lines hold ++ Put (UpdateMsg (announcement_over (65000 ∷ []))) ∷ []

abbrev pub withdrawn_lines : ℕ → List Line
withdrawn_lines hold = told_lines hold ++ Put (UpdateMsg withdrawal) ∷ []

-- ---- with hold time 90, a KEEPALIVE is put in round 30

abbrev pub beaten_lines : List Line
beaten_lines = confirmed_lines 90 ++ Tick 30 ∷ Put KeepaliveMsg ∷ []

-- ---- a hold time of 3 seconds that expires: a KEEPALIVE in rounds 1 and 2, and then the NOTIFICATION 4/0

abbrev pub expired_lines : List Line
expired_lines = confirmed_lines 3 ++ Tick 1 ∷ Put KeepaliveMsg ∷ Tick 2 ∷ Put KeepaliveMsg
    ∷ Tick 3 ∷ Put (NoticeMsg (record { code = 4; subcode = 0; info = [] })) ∷ []

-- ---- a wide session

abbrev pub wide_home : open_type.OpenMsg
wide_home = home_open 4200000000 0 0x0AFF0001 true false

abbrev pub wide_peering : Peering
wide_peering = record { first = wide_home; remote_as = 4200000001 }

-- an OPEN of the remote: AS_TRANS, hold time 180, and the capability of four-octet AS numbers
abbrev pub wide_open_bytes : List ℕ
wide_open_bytes = framed 1 (0x04 ∷ 0x5B ∷ 0xA0 ∷ 0x00 ∷ 0xB4 ∷ 0xC0 ∷ 0x00 ∷ 0x02 ∷ 0x01 ∷ 0x08 ∷ 0x02 ∷ 0x06 ∷ 0x41 ∷ 0x04 ∷ 0xFA ∷ 0x56 ∷ 0xEA ∷ 0x01 ∷ [])

abbrev pub wide_lines : List Line
wide_lines = Put (OpenMsg wide_home) ∷ Got wide_open_bytes ∷ Put KeepaliveMsg ∷ Got keepalive_bytes ∷ Put (UpdateMsg (announcement_over (4200000000 ∷ []))) ∷ []

-- what home puts: its OPEN with AS_TRANS and the capability, a KEEPALIVE, and the announcement, whose path has one AS of four octets, FA56EA00
-- (hexadecimal)
abbrev pub wide_put_bytes : List ℕ
wide_put_bytes = framed 1 (0x04 ∷ 0x5B ∷ 0xA0 ∷ 0x00 ∷ 0x00 ∷ 0x0A ∷ 0xFF ∷ 0x00 ∷ 0x01 ∷ 0x08 ∷ 0x02 ∷ 0x06 ∷ 0x41 ∷ 0x04 ∷ 0xFA ∷ 0x56 ∷ 0xEA ∷ 0x00 ∷ [])
    ++ keepalive_bytes
    ++ framed 2 (0x00 ∷ 0x00 ∷ 0x00 ∷ 0x14 ∷ 0x40 ∷ 0x01 ∷ 0x01 ∷ 0x00 ∷ 0x40 ∷ 0x02 ∷ 0x06 ∷ 0x02 ∷ 0x01
    ∷ 0xFA ∷ 0x56 ∷ 0xEA ∷ 0x00 ∷ 0x40 ∷ 0x03 ∷ 0x04 ∷ 0xC0 ∷ 0x00 ∷ 0x02 ∷ 0x02 ∷ 0x08 ∷ 0x0A ∷ [])

-- Only home offers AS numbers of four octets, to the remote of AS 65001.
abbrev pub offering_peering : Peering
offering_peering = record { first = wide_home; remote_as = 65001 }

abbrev pub offering_lines : List Line
offering_lines = Put (OpenMsg wide_home) ∷ Got open_bytes ∷ Put KeepaliveMsg ∷ []

-- ---- the OPEN of home has the capability of IPv4 unicast (RFC 4760, section 8)

-- the OPEN has no other capability; the remote's OPEN has none
abbrev pub unicast_home : open_type.OpenMsg
unicast_home = home_open 65000 0 0x0AFF0001 false true

abbrev pub unicast_peering : Peering
unicast_peering = record { first = unicast_home; remote_as = 65001 }

abbrev pub unicast_lines : List Line
unicast_lines = Put (OpenMsg unicast_home) ∷ Got open_bytes ∷ Put KeepaliveMsg ∷ Got keepalive_bytes ∷ Put (UpdateMsg (announcement_over (65000 ∷ []))) ∷ []

-- its OPEN with the capability, a KEEPALIVE, and the announcement, whose path has one AS of two octets
abbrev pub unicast_put_bytes : List ℕ
unicast_put_bytes = framed 1 (0x04 ∷ 0xFD ∷ 0xE8 ∷ 0x00 ∷ 0x00 ∷ 0x0A ∷ 0xFF ∷ 0x00 ∷ 0x01 ∷ 0x08 ∷ 0x02 ∷ 0x06 ∷ 0x01 ∷ 0x04 ∷ 0x00 ∷ 0x01 ∷ 0x00 ∷ 0x01 ∷ [])
    ++ keepalive_bytes
    ++ framed 2 (0x00 ∷ 0x00 ∷ 0x00 ∷ 0x12 ∷ 0x40 ∷ 0x01 ∷ 0x01 ∷ 0x00 ∷ 0x40 ∷ 0x02 ∷ 0x04 ∷ 0x02
    ∷ 0x01 ∷ 0xFD ∷ 0xE8 ∷ 0x40 ∷ 0x03 ∷ 0x04 ∷ 0xC0 ∷ 0x00 ∷ 0x02 ∷ 0x02 ∷ 0x08 ∷ 0x0A ∷ [])

-- in front of the capability of four-octet AS numbers, to a remote whose OPEN has both
abbrev pub both_home : open_type.OpenMsg
both_home = home_open 65000 0 0x0AFF0001 true true

abbrev pub both_peering : Peering
both_peering = record { first = both_home; remote_as = 65001 }

-- an OPEN of the remote: hold time 180, and both capabilities
abbrev pub both_open_bytes : List ℕ
both_open_bytes = framed 1 (0x04 ∷ 0xFD ∷ 0xE9 ∷ 0x00 ∷ 0xB4 ∷ 0xC0 ∷ 0x00 ∷ 0x02 ∷ 0x01 ∷ 0x10 ∷ 0x02 ∷ 0x06
    ∷ 0x01 ∷ 0x04 ∷ 0x00 ∷ 0x01 ∷ 0x00 ∷ 0x01 ∷ 0x02 ∷ 0x06 ∷ 0x41 ∷ 0x04 ∷ 0x00 ∷ 0x00 ∷ 0xFD ∷ 0xE9 ∷ [])

abbrev pub both_lines : List Line
both_lines = Put (OpenMsg both_home) ∷ Got both_open_bytes ∷ Put KeepaliveMsg ∷ []

-- its OPEN with both capabilities, each in a parameter of its own, and a KEEPALIVE
abbrev pub both_put_bytes : List ℕ
both_put_bytes = framed 1 (0x04 ∷ 0xFD ∷ 0xE8 ∷ 0x00 ∷ 0x00 ∷ 0x0A ∷ 0xFF ∷ 0x00 ∷ 0x01 ∷ 0x10 ∷ 0x02 ∷ 0x06
    ∷ 0x01 ∷ 0x04 ∷ 0x00 ∷ 0x01 ∷ 0x00 ∷ 0x01 ∷ 0x02 ∷ 0x06 ∷ 0x41 ∷ 0x04 ∷ 0x00 ∷ 0x00 ∷ 0xFD ∷ 0xE8 ∷ [])
    ++ keepalive_bytes
