-- What stands behind the header of a link.
use Rattle.std.specs.Prelude.{ℕ, ◌==◌, nat_le, Bool, ◌&&◌, ◌||◌, if◌then◌else◌, List, length, drop, Option, None, Some}
use Rattle.pcap_form.specs.declared.order.ByteOrder.TheVariants.{Big, Little}
use Rattle.pcap_form.specs.declared.link.LinkType.{LinkType}
use Rattle.pcap_form.specs.declared.link.LinkType.TheVariants.{Null, Ethernet, Raw, LinuxCooked, Ipv4, LinuxCooked2, Other}
use Rattle.pcap_form.specs.Numbers.{word_at, half_at}

-- A header of this length is there, and the type of Ethernet at a place in it is that of IPv4, 0x0800.
abbrev pub type_at : List ℕ → (place header : ℕ) → Bool
type_at octets place header = nat_le header (length octets) && half_at Big octets place == 0x0800

abbrev pub behind_type : List ℕ → (place header : ℕ) → Option (List ℕ)
behind_type octets place header = if type_at octets place header then Some (drop header octets) else None

-- an Ethernet header with a tag (IEEE 802.1Q), whose type is 0x8100
abbrev pub is_tagged : List ℕ → Bool
is_tagged octets = nat_le 14 (length octets) && half_at Big octets 12 == 0x8100

-- The loopback of BSD names the family of addresses, which is 2 for IPv4, in the order of the machine.
abbrev pub is_family : List ℕ → Bool
is_family octets = nat_le 4 (length octets) && (word_at Big octets 0 == 2 || word_at Little octets 0 == 2)

-- The octets of a packet behind the header of its link, if that header says that they are IPv4's. Where there is no such header, all may be.
abbrev pub behind_link : LinkType → List ℕ → Option (List ℕ)
behind_link Null octets = if is_family octets then Some (drop 4 octets) else None
behind_link Ethernet octets = if is_tagged octets then behind_type octets 16 18 else behind_type octets 12 14
behind_link Raw octets = Some octets
behind_link LinuxCooked octets = behind_type octets 14 16
behind_link Ipv4 octets = Some octets
behind_link LinuxCooked2 octets = behind_type octets 0 20
behind_link (Other number) octets = None
