-- Numbers in a file, types of links, and fields with their places.
use Rattle.std.specs.Prelude.{ℕ, ◌==◌, Bool, ◌||◌, if◌then◌else◌, List, [], ◌∷◌, drop, Option, None, Some}
use Rattle.std.specs.Int.{w16, w32, from_be_bytes, from_le_bytes}
use Rattle.pcap_form.specs.declared.order.ByteOrder.{ByteOrder}
use Rattle.pcap_form.specs.declared.order.ByteOrder.TheVariants.{Big, Little}
use Rattle.pcap_form.specs.declared.link.LinkType.{LinkType}
use Rattle.pcap_form.specs.declared.link.LinkType.TheVariants.{Null, Ethernet, Raw, LinuxCooked, Ipv4, LinuxCooked2, Other}

-- the number of the four octets at a place
unfoldable pub word_at : ByteOrder → List ℕ → ℕ → ℕ
word_at Big octets place = from_be_bytes w32 (drop place octets)
word_at Little octets place = from_le_bytes w32 (drop place octets)

-- the number of the two octets at a place
unfoldable pub half_at : ByteOrder → List ℕ → ℕ → ℕ
half_at Big octets place = from_be_bytes w16 (drop place octets)
half_at Little octets place = from_le_bytes w16 (drop place octets)

-- Raw has the number 101, and the number 12 as some programs write it.
unfoldable pub link_type : ℕ → LinkType
link_type n =
    if n == 0 then Null else
    if n == 1 then Ethernet else
    if n == 12 || n == 101 then Raw else
    if n == 113 then LinuxCooked else
    if n == 228 then Ipv4 else
    if n == 276 then LinuxCooked2 else Other n

-- Fields from left to right, each by its place, and whether it may stand there: the place of the first that may not.
abbrev pub first_wrong : List (ℕ × Bool) → Option ℕ
first_wrong [] = None
first_wrong (field ∷ fields) = if field.1 then first_wrong fields else Some field.0
