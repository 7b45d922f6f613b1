-- The headers of IPv4 (RFC 791, section 3.1) and TCP (RFC 9293, section 3.1).
use Rattle.std.specs.Prelude.{ℕ, ◌*◌, ◌/◌, ◌%◌, ◌==◌, nat_le, Bool, not, ◌&&◌, List, length, take, drop, slice_index}
use Rattle.pcap_form.specs.declared.order.ByteOrder.TheVariants.{Big}
use Rattle.pcap_form.specs.Numbers.{half_at}

-- ---- IPv4

-- the length of the header, which its fifth to eighth bit count in words of four octets
abbrev pub header_length : List ℕ → ℕ
header_length packet = slice_index packet 0 % 16 * 4

-- the length of the packet with its header
abbrev pub total_length : List ℕ → ℕ
total_length packet = half_at Big packet 2

-- Octets begin with an IPv4 packet: a header of version 4, of five words at least, in a packet that is there to its end.
abbrev pub is_ipv4 : List ℕ → Bool
is_ipv4 packet =
    nat_le 20 (length packet) && slice_index packet 0 / 16 == 4 && nat_le 20 (header_length packet)
    && nat_le (header_length packet) (total_length packet) && nat_le (total_length packet) (length packet)

abbrev pub is_tcp : List ℕ → Bool
is_tcp packet = slice_index packet 9 == 6

-- More fragments follow, or some come before: the lower 14 of the 16 bits behind the identification.
abbrev pub is_fragment : List ℕ → Bool
is_fragment packet = not (half_at Big packet 6 % 0x4000 == 0)

-- what a packet carries; octets behind its end are padding of its link
abbrev pub carried : List ℕ → List ℕ
carried packet = drop (header_length packet) (take (total_length packet) packet)

-- ---- TCP

-- where the data begin, which is the length of the header
abbrev pub data_offset : List ℕ → ℕ
data_offset segment = slice_index segment 12 / 16 * 4

abbrev pub is_segment : List ℕ → Bool
is_segment segment = nat_le 20 (length segment) && nat_le 20 (data_offset segment) && nat_le (data_offset segment) (length segment)

-- the second of the lowest bits of the flags
abbrev pub is_syn : List ℕ → Bool
is_syn segment = slice_index segment 13 / 2 % 2 == 1
