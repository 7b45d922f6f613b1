-- Captures worked by hand.
use Rattle.std.specs.Prelude.{ℕ, List, [], ◌∷◌}
use Rattle.pcap_form.specs.declared.link.LinkType.TheVariants.{Ethernet, Raw, Ipv4}
use Rattle.pcap_form.specs.Blocks.{Captured}
use Rattle.pcap_form.specs.Captures.{joined}

-- ---- a pcap file: nanoseconds, the highest octet first, and bits above the link's type

abbrev pub worked_header : List ℕ
worked_header =
    0xA1 ∷ 0xB2 ∷ 0x3C ∷ 0x4D ∷ 0 ∷ 2 ∷ 0 ∷ 4 ∷ 0 ∷ 0 ∷ 0 ∷ 0 ∷ 0 ∷ 0 ∷ 0 ∷ 0 ∷ 0 ∷ 0 ∷ 0xFF ∷ 0xFF ∷ 0x10 ∷ 0 ∷ 0 ∷ 1 ∷ []

-- two octets of nine
abbrev pub worked_record : List ℕ
worked_record = 0 ∷ 0 ∷ 0 ∷ 5 ∷ 0 ∷ 0 ∷ 0 ∷ 7 ∷ 0 ∷ 0 ∷ 0 ∷ 2 ∷ 0 ∷ 0 ∷ 0 ∷ 9 ∷ 0xAA ∷ 0xBB ∷ []

abbrev pub worked_pcap : List ℕ
worked_pcap = joined (worked_header ∷ worked_record ∷ [])

abbrev pub pcap_packets : List Captured
pcap_packets = record { link = Ethernet; octets = 0xAA ∷ 0xBB ∷ [] } ∷ []

-- ---- a pcapng file: a section with the lowest octet first, and one with the highest first

abbrev pub little_section : List ℕ
little_section =
    10 ∷ 13 ∷ 13 ∷ 10 ∷ 28 ∷ 0 ∷ 0 ∷ 0 ∷ 0x4D ∷ 0x3C ∷ 0x2B ∷ 0x1A ∷ 1 ∷ 0 ∷ 0 ∷ 0
    ∷ 255 ∷ 255 ∷ 255 ∷ 255 ∷ 255 ∷ 255 ∷ 255 ∷ 255 ∷ 28 ∷ 0 ∷ 0 ∷ 0 ∷ []

-- of IPv4, two octets of a packet at most
abbrev pub little_interface : List ℕ
little_interface = 1 ∷ 0 ∷ 0 ∷ 0 ∷ 20 ∷ 0 ∷ 0 ∷ 0 ∷ 228 ∷ 0 ∷ 0 ∷ 0 ∷ 2 ∷ 0 ∷ 0 ∷ 0 ∷ 20 ∷ 0 ∷ 0 ∷ 0 ∷ []

-- a packet of five octets, of which the block holds four
abbrev pub little_simple : List ℕ
little_simple = 3 ∷ 0 ∷ 0 ∷ 0 ∷ 20 ∷ 0 ∷ 0 ∷ 0 ∷ 5 ∷ 0 ∷ 0 ∷ 0 ∷ 1 ∷ 2 ∷ 3 ∷ 4 ∷ 20 ∷ 0 ∷ 0 ∷ 0 ∷ []

abbrev pub big_section : List ℕ
big_section =
    10 ∷ 13 ∷ 13 ∷ 10 ∷ 0 ∷ 0 ∷ 0 ∷ 28 ∷ 0x1A ∷ 0x2B ∷ 0x3C ∷ 0x4D ∷ 0 ∷ 1 ∷ 0 ∷ 0
    ∷ 255 ∷ 255 ∷ 255 ∷ 255 ∷ 255 ∷ 255 ∷ 255 ∷ 255 ∷ 0 ∷ 0 ∷ 0 ∷ 28 ∷ []

-- of raw packets, with no limit
abbrev pub big_interface : List ℕ
big_interface = 0 ∷ 0 ∷ 0 ∷ 1 ∷ 0 ∷ 0 ∷ 0 ∷ 20 ∷ 0 ∷ 101 ∷ 0 ∷ 0 ∷ 0 ∷ 0 ∷ 0 ∷ 0 ∷ 0 ∷ 0 ∷ 0 ∷ 20 ∷ []

-- one octet of three, and three that fill up
abbrev pub big_enhanced : List ℕ
big_enhanced =
    0 ∷ 0 ∷ 0 ∷ 6 ∷ 0 ∷ 0 ∷ 0 ∷ 36 ∷ 0 ∷ 0 ∷ 0 ∷ 0 ∷ 0 ∷ 0 ∷ 0 ∷ 0 ∷ 0 ∷ 0 ∷ 0 ∷ 0 ∷ 0 ∷ 0 ∷ 0 ∷ 1 ∷ 0 ∷ 0 ∷ 0 ∷ 3
    ∷ 9 ∷ 0 ∷ 0 ∷ 0 ∷ 0 ∷ 0 ∷ 0 ∷ 36 ∷ []

abbrev pub worked_blocks : List (List ℕ)
worked_blocks = little_section ∷ little_interface ∷ little_simple ∷ big_section ∷ big_interface ∷ big_enhanced ∷ []

abbrev pub worked_pcapng : List ℕ
worked_pcapng = joined worked_blocks

abbrev pub pcapng_packets : List Captured
pcapng_packets = record { link = Ipv4; octets = 1 ∷ 2 ∷ [] } ∷ record { link = Raw; octets = 9 ∷ [] } ∷ []
