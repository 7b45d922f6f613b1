-- A packet that is written: a segment of TCP over IPv4.
use Rattle.std.specs.Prelude.{ℕ, ◌+◌, ◌-◌, ◌*◌, ◌%◌, ◌^◌, ◌<◌, ◌==◌, if◌then◌else◌, List, [], ◌∷◌, ◌++◌, length}
use Rattle.std.specs.Int.{w16, w32, to_be_bytes}
use Rattle.tcp_seq.specs.declared.segment.Segment.{Segment}
use Rattle.tcp_packets.specs.declared.socket.Socket.{Socket}

-- The numbers of an end, as its fields hold them.
pub record IsInRange (end : Socket) : Type 0 where
  pub address : end.address < 2 ^ 32
  pub port : end.port < 2 ^ 16

-- ---- the checksum (RFC 1071)

-- the sum of the words of 16 bits; behind an odd octet at the end a 0 is added
abbrev pub word_sum : List ℕ → ℕ
word_sum [] = 0
word_sum (high ∷ []) = 256 * high
word_sum (high ∷ low ∷ rest) = 256 * high + low + word_sum rest

-- What is carried out of the highest of 16 bits is added at the lowest, so that a sum is counted modulo 65,535. It is 0 only where all words are.
abbrev pub carried_around : ℕ → ℕ
carried_around sum = if sum == 0 then 0 else 1 + (sum - 1) % 65535

-- the ones' complement sum of the words
abbrev pub ones_sum : List ℕ → ℕ
ones_sum octets = carried_around (word_sum octets)

-- its ones' complement
abbrev pub checksum : List ℕ → ℕ
checksum octets = 65535 - ones_sum octets

-- ---- the headers

-- Version 4, five words, no special service; the packet's length; no identification, and not to be fragmented; 64 hops, TCP; and the checksum.
abbrev pub ip_header : (check : ℕ) → Socket → Socket → Segment → List ℕ
ip_header check source target s =
    0x45 ∷ 0 ∷ to_be_bytes w16 (40 + length s.bytes) ++ to_be_bytes w16 0 ++ to_be_bytes w16 0x4000 ++ 64 ∷ 6 ∷ to_be_bytes w16 check
    ++ to_be_bytes w32 source.address ++ to_be_bytes w32 target.address

-- ACK, and PSH where there are octets
abbrev pub flags : Segment → ℕ
flags s = if length s.bytes == 0 then 0x10 else 0x18

-- the ports, the numbers, five words, the flags, the window of the laboratory's ends, the checksum, and no urgent octets
abbrev pub tcp_header : (check : ℕ) → Socket → Socket → Segment → List ℕ
tcp_header check source target s =
    to_be_bytes w16 source.port ++ to_be_bytes w16 target.port ++ to_be_bytes w32 s.seq.0 ++ to_be_bytes w32 s.ack.0
    ++ 0x50 ∷ flags s ∷ to_be_bytes w16 16384 ++ to_be_bytes w16 check ++ to_be_bytes w16 0

abbrev pub tcp_segment : (check : ℕ) → Socket → Socket → Segment → List ℕ
tcp_segment check source target s = tcp_header check source target s ++ s.bytes

-- what TCP's checksum covers before the segment
abbrev pub pseudo_header : Socket → Socket → Segment → List ℕ
pseudo_header source target s =
    to_be_bytes w32 source.address ++ to_be_bytes w32 target.address ++ 0 ∷ 6 ∷ to_be_bytes w16 (20 + length s.bytes)

-- ---- the packet

abbrev pub ip_check : Socket → Socket → Segment → ℕ
ip_check source target s = checksum (ip_header 0 source target s)

abbrev pub tcp_check : Socket → Socket → Segment → ℕ
tcp_check source target s = checksum (pseudo_header source target s ++ tcp_segment 0 source target s)

abbrev pub written_packet : Socket → Socket → Segment → List ℕ
written_packet source target s =
    ip_header (ip_check source target s) source target s ++ tcp_segment (tcp_check source target s) source target s
