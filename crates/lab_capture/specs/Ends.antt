-- Segments of a peering, as packets.
use Rattle.std.specs.Prelude.{ℕ, ◌+◌, List}
use Rattle.tcp_seq.specs.Endpoint.{PlacedSegment}
use Rattle.tcp_seq.specs.Numbers.{number}
use Rattle.tcp_seq.specs.declared.segment.Segment.{Segment}
use Rattle.tcp_seq.specs.declared.segment.Way.{Way}
use Rattle.tcp_seq.specs.declared.segment.Way.TheVariants.{Home, Remote}
use Rattle.tcp_packets.specs.Writing.{written_packet}
use Rattle.tcp_packets.specs.declared.socket.Socket.{Socket}
use Rattle.lab_tables.specs.declared.input.PeeringInput.{PeeringInput}

-- the home side listens at BGP's port (RFC 4271, section 4.2), and each remote has a port of its own
abbrev pub home_socket : PeeringInput → Socket
home_socket peering = record { address = peering.local_address; port = 179 }

abbrev pub remote_socket : (p : ℕ) → PeeringInput → Socket
remote_socket p peering = record { address = peering.remote_address; port = 49152 + p }

-- the source and the target of segments to the home side, and to the remote
abbrev pub sockets : Way → (p : ℕ) → PeeringInput → Socket × Socket
sockets Home p peering = (remote_socket p peering, home_socket peering)
sockets Remote p peering = (home_socket peering, remote_socket p peering)

-- the segment with its sequence numbers, by those of the first octets
abbrev pub numbered : (p : ℕ) → Way → (own_first other_first : ℕ) → PlacedSegment → Segment
numbered p way own_first other_first s = record {
  peering = record { 0 = p };
  way = way;
  seq = record { 0 = number own_first s.offset };
  ack = record { 0 = number other_first s.ack };
  window = 16384;
  bytes = s.bytes;
}

-- a segment to the home side, and one to the remote
abbrev pub packet_to : Way → (p : ℕ) → PeeringInput → PlacedSegment → List ℕ
packet_to Home p peering s =
    written_packet (remote_socket p peering) (home_socket peering) (numbered p Home peering.remote_seq peering.home_seq s)
packet_to Remote p peering s =
    written_packet (home_socket peering) (remote_socket p peering) (numbered p Remote peering.home_seq peering.remote_seq s)
