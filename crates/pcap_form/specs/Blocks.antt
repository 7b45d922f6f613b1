-- A pcapng file: blocks, in sections that each begin with a block of their own.
use Rattle.std.specs.Prelude.{ℕ, ◌-◌, ◌%◌, ◌==◌, nat_lt, nat_le, min, Bool, ◌&&◌, ◌||◌, not, if◌then◌else◌}
use Rattle.std.specs.Prelude.{List, [], ◌∷◌, length, take, drop, slice_get, Option, None, Some}
use Rattle.pcap_form.specs.declared.order.ByteOrder.{ByteOrder}
use Rattle.pcap_form.specs.declared.order.ByteOrder.TheVariants.{Big, Little}
use Rattle.pcap_form.specs.declared.link.LinkType.{LinkType}
use Rattle.pcap_form.specs.declared.blocks.Interface.{Interface}
use Rattle.pcap_form.specs.Numbers.{word_at, half_at, link_type}

-- a packet: the type of the link that it was on, and its octets
pub record Captured : Type 0 where
  pub link : LinkType
  pub octets : List ℕ

-- A block's length stands behind its type, and again at its end. It counts all octets of the block.
abbrev pub is_length : (least : ℕ) → ℕ → List ℕ → Bool
is_length least size left = nat_le least size && size % 4 == 0 && nat_le size (length left)

-- ---- the block that begins a section

-- Its type is the same in both orders.
abbrev pub begins_section : List ℕ → Bool
begins_section left = nat_le 4 (length left) && word_at Big left 0 == 0x0A0D0D0A

-- the order of the section's numbers
abbrev pub section_order : List ℕ → ByteOrder
section_order left = if word_at Big left 8 == 0x1A2B3C4D then Big else Little

abbrev pub section_size : List ℕ → ℕ
section_size left = word_at (section_order left) left 4

-- What says the order comes first, since no other number can be read before it. Behind it are the version, whose first number is 1, the section's
-- length, and options.
abbrev pub section_fields : List ℕ → List (ℕ × Bool)
section_fields left =
    (0, nat_le 12 (length left))
    ∷ (8, word_at (section_order left) left 8 == 0x1A2B3C4D)
    ∷ (4, is_length 28 (section_size left) left)
    ∷ (12, half_at (section_order left) left 12 == 1)
    ∷ (section_size left - 4, word_at (section_order left) left (section_size left - 4) == section_size left) ∷ []

-- ---- the other blocks of a section

-- an interface: the type of its link, 2 octets, the most octets of a packet, or 0 for no limit, and options
abbrev pub is_interface : ByteOrder → List ℕ → Bool
is_interface order left = word_at order left 0 == 1

-- a simple packet: its length on the first interface, and its octets
abbrev pub is_simple : ByteOrder → List ℕ → Bool
is_simple order left = word_at order left 0 == 3

-- an enhanced packet: the number of its interface, its time in two parts, how many octets were captured, its length, these octets, and options
abbrev pub is_enhanced : ByteOrder → List ℕ → Bool
is_enhanced order left = word_at order left 0 == 6

-- the length of a block that has nothing but what blocks of its type must have
abbrev pub least_length : ByteOrder → List ℕ → ℕ
least_length order left =
    if is_interface order left then 20 else if is_simple order left then 16 else if is_enhanced order left then 32 else 12

-- A packet is of an interface that the section had before.
abbrev pub block_fields : ByteOrder → List Interface → List ℕ → List (ℕ × Bool)
block_fields order interfaces left =
    (0, nat_le 12 (length left) && (not (is_simple order left) || nat_lt 0 (length interfaces)))
    ∷ (4, is_length (least_length order left) (word_at order left 4) left)
    ∷ (8, not (is_enhanced order left) || nat_lt (word_at order left 8) (length interfaces))
    ∷ (20, not (is_enhanced order left) || nat_le (word_at order left 20) (word_at order left 4 - 32))
    ∷ (word_at order left 4 - 4, word_at order left (word_at order left 4 - 4) == word_at order left 4) ∷ []

-- the interface that a block adds to its section
abbrev pub interfaces_in : ByteOrder → List ℕ → List Interface
interfaces_in order block =
    if is_interface order block then record { link = link_type (half_at order block 8); snaplen = word_at order block 12 } ∷ [] else []

-- The octets of a simple packet are as many as its length says, but no more than the interface captures, or than the block holds.
abbrev pub simple_length : (original snaplen held : ℕ) → ℕ
simple_length original snaplen held = min original (if snaplen == 0 then held else min snaplen held)

abbrev pub packet_on : Option Interface → (Interface → List ℕ) → List Captured
packet_on None octets_of = []
packet_on (Some interface) octets_of = record { link = interface.link; octets = octets_of interface } ∷ []

abbrev pub enhanced_packets : ByteOrder → List Interface → List ℕ → List Captured
enhanced_packets order interfaces block =
    packet_on (slice_get interfaces (word_at order block 8)) (λ _. take (word_at order block 20) (drop 28 block))

abbrev pub simple_packets : ByteOrder → List Interface → List ℕ → List Captured
simple_packets order interfaces block =
    packet_on (slice_get interfaces 0)
    (λ interface. take (simple_length (word_at order block 8) interface.snaplen (length block - 16)) (drop 12 block))

-- the packet of a block, if it is the block of one
abbrev pub packets_in_block : ByteOrder → List Interface → List ℕ → List Captured
packets_in_block order interfaces block =
    if is_enhanced order block then enhanced_packets order interfaces block
    else if is_simple order block then simple_packets order interfaces block
    else []
