-- Worked messages in words.
use Rattle.std.specs.Prelude.{ℕ, List, [], ◌∷◌, ◌++◌, Some, None, true, false, codes, replicate}
use Rattle.bgp_types.specs.declared.attrs.Origin.TheVariants.{Igp}
use Rattle.bgp_types.specs.declared.fault.Expected.{Expected}
use Rattle.bgp_types.specs.declared.message.Message.{Message}
use Rattle.bgp_types.specs.declared.message.Message.TheVariants.{OpenMsg, UpdateMsg, NoticeMsg, KeepaliveMsg}
use Rattle.bgp_types.specs.declared.message.SessionState.TheVariants.{OpenSent}
use Rattle.bgp_types.specs.declared.path.PathPart.TheVariants.{Sequence, Set}
use Rattle.bgp_types.specs.Prefixes.{PrefixValue}
use Rattle.bgp_types.specs.Spelling.{framed}
use Rattle.bgp_story.specs.Opens.{home_open}

abbrev network : (address len : ℕ) → PrefixValue
network address len = record { address = address; len = len }

-- with all attributes
abbrev worked_update : Message
worked_update = UpdateMsg (record {
  withdrawn = network 0x0A020000 16 ∷ [];
  attrs = Some (record {
    origin = Igp;
    path = Sequence (65001 ∷ []) ∷ Set (64999 ∷ 64998 ∷ []) ∷ [];
    next_hop = 0xC0000201;
    med = Some 10;
    atomic = true;
    aggregator = Some (record { as_number = 65001; address = 0xC0000201; partial = false });
    unknown = record { kind = 99; bytes = 10 ∷ 11 ∷ []; partial = true } ∷ [];
  });
  nlri = network 0x0A000000 8 ∷ network 0x0A010000 16 ∷ [];
})

abbrev notice_of : (code subcode : ℕ) → (info : List ℕ) → Message
notice_of code subcode info = NoticeMsg (record { code = code; subcode = subcode; info = info })

-- An OPEN of an AS of four octets; and NOTIFICATIONs: one with a text of six octets, one whose text has another length than is given, one with other
-- data, one whose subcode has no name, and one whose code has none.
abbrev pub worked_messages : List Message
worked_messages = OpenMsg (home_open 4200000000 180 0x0AFF0001 true false)
    ∷ worked_update
    ∷ UpdateMsg (record { withdrawn = []; attrs = None; nlri = [] })
    ∷ KeepaliveMsg
    ∷ notice_of 6 2 (6 ∷ codes "moving")
    ∷ notice_of 6 4 (5 ∷ codes "moving")
    ∷ notice_of 3 3 (1 ∷ [])
    ∷ notice_of 6 9 []
    ∷ notice_of 7 1 []
    ∷ []

abbrev pub worked_words : List (List ℕ)
worked_words = codes "OPEN as 23456 hold 180 id 10.255.0.1 capability 65 as4 4200000000"
    ∷ (codes "UPDATE withdraw 10.2.0.0/16 announce 10.0.0.0/8 10.1.0.0/16 path 65001,{64999,64998} next-hop 192.0.2.1 origin igp"
    ++ codes " med 10 atomic-aggregate aggregator 65001 192.0.2.1 attribute 99 0a0b partial")
    ∷ codes "UPDATE"
    ∷ codes "KEEPALIVE"
    ∷ codes "NOTIFICATION 6/2 Administrative Shutdown \"moving\""
    ∷ codes "NOTIFICATION 6/4 Administrative Reset data 056d6f76696e67"
    ∷ codes "NOTIFICATION 3/3 Missing Well-known Attribute data 01"
    ∷ codes "NOTIFICATION 6/9 Cease"
    ∷ codes "NOTIFICATION 7/1"
    ∷ []

-- ---- octets in which a session finds a fault

-- before the OPEN of the remote
abbrev pub worked_expected : Expected
worked_expected = record { state = OpenSent; remote_as = 65001; offered = false; wide = false }

-- 19 octets that don't begin with the marker, and a KEEPALIVE
abbrev pub worked_faults : List (List ℕ)
worked_faults = replicate 19 0 ∷ framed 4 [] ∷ []

abbrev pub worked_fault_words : List (List ℕ)
worked_fault_words = codes "header with fault 1/1 Connection Not Synchronized octets 00000000000000000000000000000000000000"
    ∷ codes "KEEPALIVE with fault 5/0 Finite State Machine Error octets ffffffffffffffffffffffffffffffff001304"
    ∷ []
