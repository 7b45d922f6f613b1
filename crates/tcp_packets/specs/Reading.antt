-- The segment of TCP in a packet of a capture.
use Rattle.std.specs.Prelude.{ℕ, Bool, ◌&&◌, if◌then◌else◌, List, drop, Option, Some, None, Result, Ok, Err}
use Rattle.pcap_form.specs.declared.order.ByteOrder.TheVariants.{Big}
use Rattle.pcap_form.specs.Blocks.{Captured}
use Rattle.pcap_form.specs.Numbers.{word_at, half_at}
use Rattle.tcp_seq.specs.Numbers.{plus}
use Rattle.tcp_packets.specs.declared.socket.Socket.{Socket}
use Rattle.tcp_packets.specs.declared.read.LeftOut.{LeftOut}
use Rattle.tcp_packets.specs.declared.read.LeftOut.TheVariants.{Fragment, Other}
use Rattle.tcp_packets.specs.Links.{behind_link}
use Rattle.tcp_packets.specs.Headers.{is_ipv4, is_tcp, is_fragment, carried, is_segment, is_syn, data_offset}

-- A segment: its ends, whether it opens the connection, the sequence number of its first octet, and its octets. The number of a segment that opens
-- the connection is that of its SYN, and its octets come behind that (RFC 9293, section 3.4).
pub record Segment : Type 0 where
  pub source : Socket
  pub target : Socket
  pub opens : Bool
  pub first : ℕ
  pub octets : List ℕ

abbrev pub segment_of : (packet segment : List ℕ) → Segment
segment_of packet segment = record {
  source = record { address = word_at Big packet 12; port = half_at Big segment 0 };
  target = record { address = word_at Big packet 16; port = half_at Big segment 2 };
  opens = is_syn segment;
  first = plus (word_at Big segment 4) (if is_syn segment then 1 else 0);
  octets = drop (data_offset segment) segment;
}

-- the segment of an IPv4 packet that carries TCP
abbrev pub tcp_in : List ℕ → Result Segment LeftOut
tcp_in packet =
    if is_fragment packet then Err Fragment
    else if is_segment (carried packet) then Ok (segment_of packet (carried packet))
    else Err Other

abbrev pub segment_in : Option (List ℕ) → Result Segment LeftOut
segment_in None = Err Other
segment_in (Some packet) = if is_ipv4 packet && is_tcp packet then tcp_in packet else Err Other

-- A packet of a capture is a segment; or a fragment of an IPv4 packet that carries TCP; or anything else, as is a packet that wasn't captured to its
-- end.
abbrev pub read_packet : Captured → Result Segment LeftOut
read_packet captured = segment_in (behind_link captured.link captured.octets)
