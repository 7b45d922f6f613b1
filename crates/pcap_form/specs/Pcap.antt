-- A pcap file: a header of 24 octets, and records.
use Rattle.std.specs.Prelude.{ℕ, ◌+◌, ◌%◌, ◌==◌, nat_le, Bool, ◌&&◌, ◌||◌, if◌then◌else◌, List, [], ◌∷◌, length}
use Rattle.pcap_form.specs.declared.order.ByteOrder.{ByteOrder}
use Rattle.pcap_form.specs.declared.order.ByteOrder.TheVariants.{Big, Little}
use Rattle.pcap_form.specs.declared.link.LinkType.{LinkType}
use Rattle.pcap_form.specs.Numbers.{word_at, half_at, link_type}

-- the fractions of seconds are microseconds, or nanoseconds
abbrev pub is_magic : ℕ → Bool
is_magic n = n == 0xA1B2C3D4 || n == 0xA1B23C4D

-- the order in which the first four octets are such a number
abbrev pub header_order : List ℕ → ByteOrder
header_order file = if is_magic (word_at Big file 0) then Big else Little

-- that number, version 2.4, the time zone, the accuracy of times, the most octets of a packet, and the link
abbrev pub header_fields : List ℕ → List (ℕ × Bool)
header_fields file =
    (0, nat_le 4 (length file) && is_magic (word_at (header_order file) file 0))
    ∷ (4, nat_le 6 (length file) && half_at (header_order file) file 4 == 2)
    ∷ (6, nat_le 8 (length file) && half_at (header_order file) file 6 == 4)
    ∷ (8, nat_le 12 (length file)) ∷ (12, nat_le 16 (length file)) ∷ (16, nat_le 20 (length file)) ∷ (20, nat_le 24 (length file)) ∷ []

-- The upper 16 bits of the last field don't belong to the type of the link.
abbrev pub header_link : List ℕ → LinkType
header_link file = link_type (word_at (header_order file) file 20 % 65536)

-- A record has 16 octets and as many as the third of its numbers says, which are the packet's. The other numbers are its time in two parts and the
-- length that it had on its link.
abbrev pub record_size : ByteOrder → List ℕ → ℕ
record_size order left = 16 + word_at order left 8

abbrev pub record_fields : ByteOrder → List ℕ → List (ℕ × Bool)
record_fields order left = (0, nat_le 16 (length left)) ∷ (8, nat_le (record_size order left) (length left)) ∷ []
