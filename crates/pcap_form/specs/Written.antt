-- What is written: a pcap file of IPv4 packets.
use Rattle.std.specs.Prelude.{ℕ, ◌≤◌, List, ◌++◌, length, map, replicate}
use Rattle.std.specs.Int.{w16, w32, to_le_bytes}
use Rattle.std.specs.List.{AllByRecursion, flat_map}
use Rattle.pcap_form.specs.declared.packet.CapturedPacket.{CapturedPacket}
use Rattle.pcap_form.specs.declared.link.LinkType.TheVariants.{Ipv4}
use Rattle.pcap_form.specs.Blocks.{Captured}

-- microseconds, version 2.4, two numbers that are 0, packets of 65,535 octets at most, and the link of IPv4
abbrev pub written_header : List ℕ
written_header =
    to_le_bytes w32 0xA1B2C3D4 ++ to_le_bytes w16 2 ++ to_le_bytes w16 4 ++ replicate 8 0 ++ to_le_bytes w32 65535 ++ to_le_bytes w32 228

-- A packet is captured whole.
abbrev pub written_record : CapturedPacket → List ℕ
written_record p =
    to_le_bytes w32 p.seconds ++ to_le_bytes w32 p.microseconds ++ to_le_bytes w32 (length p.octets) ++ to_le_bytes w32 (length p.octets) ++ p.octets

abbrev pub written : List CapturedPacket → List ℕ
written packets = written_header ++ flat_map written_record packets

-- no packet is longer than IPv4's length field can say
abbrev pub AreShort : List CapturedPacket → Type 0
AreShort = AllByRecursion (λ p. length p.octets ≤ 65535)

-- what is read from such a file
abbrev pub read_back : List CapturedPacket → List Captured
read_back packets = map (λ p. record { link = Ipv4; octets = p.octets }) packets
