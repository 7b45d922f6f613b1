-- The written forms of some messages, computed.
use Rattle.std.proofs.Common.{◌≡◌, ℕ, List, [], ◌∷◌, ◌++◌, Some, None, Bool, true, false, refl}
use Rattle.bgp_types.specs.declared.attrs.Origin.TheVariants as origins
use Rattle.bgp_types.specs.declared.message.Message.{Message}
use Rattle.bgp_types.specs.declared.message.Message.TheVariants as messages
use Rattle.bgp_types.specs.declared.path.PathPart.TheVariants as parts
use Rattle.bgp_types.specs.PathOctets.{path_octets}
use Rattle.bgp_types.specs.Spelling.{marker, attrs_written, spell_attrs, spell}

-- a KEEPALIVE
pub keepalive : (wide : Bool) → spell messages.KeepaliveMsg wide ≡ marker ++ 0x00 ∷ 0x13 ∷ 4 ∷ []
unfolding spell
keepalive wide = refl

-- an OPEN of AS 65000 with hold time 0 and identifier 10.255.0.1
pub plain_open : (wide : Bool) → spell (messages.OpenMsg (record { as_number = 65000; hold = 0; identifier = 0x0AFF0001; caps = [] })) wide
    ≡ marker ++ 0x00 ∷ 0x1D ∷ 1 ∷ 4 ∷ 0xFD ∷ 0xE8 ∷ 0 ∷ 0 ∷ 0x0A ∷ 0xFF ∷ 0 ∷ 1 ∷ 0 ∷ []
unfolding spell
plain_open wide = refl

-- the same with the capability of four-octet AS numbers
pub wide_open : (wide : Bool)
    → spell (messages.OpenMsg
    (record { as_number = 65000; hold = 0; identifier = 0x0AFF0001; caps = record { code = 65; bytes = 0 ∷ 0 ∷ 0xFD ∷ 0xE8 ∷ [] } ∷ [] })) wide
    ≡ marker ++ 0x00 ∷ 0x25 ∷ 1 ∷ 4 ∷ 0xFD ∷ 0xE8 ∷ 0 ∷ 0 ∷ 0x0A ∷ 0xFF ∷ 0 ∷ 1 ∷ 8 ∷ 0x02 ∷ 0x06 ∷ 0x41 ∷ 0x04 ∷ 0x00 ∷ 0x00 ∷ 0xFD ∷ 0xE8 ∷ []
unfolding spell
wide_open wide = refl

-- a NOTIFICATION
pub notice : (wide : Bool) → spell (messages.NoticeMsg (record { code = 3; subcode = 3; info = 1 ∷ [] })) wide ≡ marker ++ 0x00 ∷ 0x16 ∷ 3 ∷ 3 ∷ 3 ∷ 1 ∷ []
unfolding spell
notice wide = refl

-- the announcement of 10.0.0.0/8 with a path of one sequence and next hop 192.0.2.1
abbrev pub announced : List ℕ → Message
announced ases = messages.UpdateMsg (record {
  withdrawn = [];
  attrs = Some (record {
    origin = origins.Igp;
    path = parts.Sequence ases ∷ [];
    next_hop = 0xC0000201;
    med = None;
    atomic = false;
    aggregator = None;
    unknown = [];
  });
  nlri = record { address = 0x0A000000; len = 8 } ∷ [];
})

pub announcement : spell (announced (65001 ∷ [])) false
    ≡ marker ++ 0x00 ∷ 0x2B ∷ 2 ∷ 0 ∷ 0 ∷ 0x00 ∷ 0x12 ∷ 0x40 ∷ 0x01 ∷ 0x01 ∷ 0x00 ∷ 0x40 ∷ 0x02 ∷ 0x04
    ∷ 0x02 ∷ 0x01 ∷ 0xFD ∷ 0xE9 ∷ 0x40 ∷ 0x03 ∷ 0x04 ∷ 0xC0 ∷ 0x00 ∷ 0x02 ∷ 0x01 ∷ 0x08 ∷ 0x0A ∷ []
unfolding spell spell_attrs attrs_written path_octets
announcement = refl

pub narrow_announcement : spell (announced (65001 ∷ 70000 ∷ [])) false
    ≡ marker ++ 0x00 ∷ 0x3A ∷ 2 ∷ 0 ∷ 0 ∷ 0x00 ∷ 0x21 ∷ 0x40 ∷ 0x01 ∷ 0x01 ∷ 0x00 ∷ 0x40 ∷ 0x02 ∷ 0x06 ∷ 0x02 ∷ 0x02 ∷ 0xFD ∷ 0xE9 ∷ 0x5B ∷ 0xA0 ∷ 0x40
    ∷ 0x03 ∷ 0x04 ∷ 0xC0 ∷ 0x00 ∷ 0x02 ∷ 0x01 ∷ 0xC0 ∷ 0x11 ∷ 0x0A ∷ 0x02 ∷ 0x02 ∷ 0x00 ∷ 0x00 ∷ 0xFD ∷ 0xE9 ∷ 0x00 ∷ 0x01 ∷ 0x11 ∷ 0x70 ∷ 0x08 ∷ 0x0A ∷ []
unfolding spell spell_attrs attrs_written path_octets
narrow_announcement = refl

pub wide_announcement : spell (announced (65001 ∷ 70000 ∷ [])) true
    ≡ marker ++ 0x00 ∷ 0x31 ∷ 2 ∷ 0 ∷ 0 ∷ 0x00 ∷ 0x18 ∷ 0x40 ∷ 0x01 ∷ 0x01 ∷ 0x00 ∷ 0x40 ∷ 0x02 ∷ 0x0A ∷ 0x02 ∷ 0x02 ∷ 0x00
    ∷ 0x00 ∷ 0xFD ∷ 0xE9 ∷ 0x00 ∷ 0x01 ∷ 0x11 ∷ 0x70 ∷ 0x40 ∷ 0x03 ∷ 0x04 ∷ 0xC0 ∷ 0x00 ∷ 0x02 ∷ 0x01 ∷ 0x08 ∷ 0x0A ∷ []
unfolding spell spell_attrs attrs_written path_octets
wide_announcement = refl
